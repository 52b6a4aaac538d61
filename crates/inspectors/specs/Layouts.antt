-- The lines of a layout.
use Rattle.std.specs.Prelude.{ℕ, cond, ℤ, pos, List, [], ◌∷◌}
use Rattle.std.specs.Ordering.{int_eq}
use Rattle.c_tree.specs.declared.program.Matrix.{Matrix}
use Rattle.c_tree.specs.declared.program.Kind.TheVariants.{Number}
use Rattle.c_tree.specs.declared.index.Cell.{Cell}
use Rattle.c_tree.specs.declared.index.Index.{Index}
use Rattle.c_tree.specs.declared.index.Index.TheVariants.{Const, Var, At, Minus, Times, Floor}
use Rattle.c_tree.specs.declared.data.Expr.TheVariants as of_data
use Rattle.c_tree.specs.declared.statement.How.TheVariants.{Add}
use Rattle.c_tree.specs.declared.statement.Stmt.{Stmt}
use Rattle.c_tree.specs.declared.statement.Stmt.TheVariants.{Declare, Grow, Assign}
use Rattle.inspectors.specs.declared.level.Compacted.{Compacted}
use Rattle.inspectors.specs.declared.layout.Layout.{Layout}
use Rattle.inspectors.specs.declared.layout.Layout.TheVariants.{Plain, Block, Diag}
use Rattle.inspectors.specs.declared.names.MarkNames.{MarkNames}
use Rattle.inspectors.specs.Trees.{row_name, entry_name, cell, cell_of_two, cell_of_three}
use Rattle.inspectors.specs.Expressions.{column, offset, value}

abbrev pub declared_block : List ℕ → ℤ → ℤ → Stmt
declared_block lay rows cols = Declare lay Number (Const rows ∷ Const cols ∷ [])

-- the layout is declared with its extents behind the first
abbrev pub declaration : Matrix → Layout → List Stmt
declaration m Plain = []
declaration m (Block lay rows cols) = declared_block lay rows cols ∷ []
declaration m (Diag lay) = Declare lay Number (Var m.rows ∷ []) ∷ []

abbrev pub grow_by_one : List ℕ → List Stmt
grow_by_one lay = Grow lay (Const (pos 1)) ∷ []

-- it grows by one for each new value
abbrev pub growth : Layout → List Stmt
growth Plain = []
growth (Block lay rows cols) = grow_by_one lay
growth (Diag lay) = grow_by_one lay

-- the position of an entry's value
abbrev pub place : Compacted → MarkNames → Index
place x b = Minus (At (cell b.mark (offset x))) (Const (pos 1))

abbrev pub times : ℤ → Index → Index
times n e = Times n e

-- the row and the column in a block
abbrev pub row_in_block : ℤ → Index
row_in_block r = cond (int_eq r (pos 1)) (Const (pos 0)) (Minus (Var row_name) (times r (Floor (Var row_name) r)))

abbrev pub column_in_block : Compacted → ℤ → Index
column_in_block x c = cond (int_eq c (pos 1)) (Const (pos 0)) (Minus (column x.matrix) (times c (value x)))

abbrev pub cell_of_block : Compacted → MarkNames → List ℕ → ℤ → ℤ → Cell
cell_of_block x b lay rows cols = cell_of_three lay (place x b) (row_in_block rows) (column_in_block x cols)

abbrev pub cell_of_diagonal : Compacted → MarkNames → List ℕ → Cell
cell_of_diagonal x b lay = cell_of_two lay (place x b) (Var row_name)

-- the matrix's value of an entry is added to a cell
abbrev pub add_value : Matrix → Cell → Stmt
add_value m c = Assign c Add (of_data.At (cell m.value (Var entry_name)))

-- an entry's value is added to its cell of the layout
abbrev pub store : Compacted → MarkNames → Layout → List Stmt
store x b Plain = []
store x b (Block lay rows cols) = add_value x.matrix (cell_of_block x b lay rows cols) ∷ []
store x b (Diag lay) = add_value x.matrix (cell_of_diagonal x b lay) ∷ []
