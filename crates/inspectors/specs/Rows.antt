-- The lines that pad rows to the length of the longest.
use Rattle.std.specs.Prelude.{ℕ, pos, List, [], ◌∷◌, ◌++◌}
use Rattle.c_tree.specs.declared.program.Matrix.{Matrix}
use Rattle.c_tree.specs.declared.program.Kind.{Kind}
use Rattle.c_tree.specs.declared.program.Kind.TheVariants.{Number, Position}
use Rattle.c_tree.specs.declared.index.Cell.{Cell}
use Rattle.c_tree.specs.declared.index.Index.{Index}
use Rattle.c_tree.specs.declared.index.Index.TheVariants.{Const, Var, At, Minus}
use Rattle.c_tree.specs.declared.statement.Cmp.TheVariants.{Less}
use Rattle.c_tree.specs.declared.statement.Test.{Test}
use Rattle.c_tree.specs.declared.statement.Stmt.{Stmt}
use Rattle.c_tree.specs.declared.statement.Stmt.TheVariants.{If, Put, Declare, Grow}
use Rattle.inspectors.specs.declared.names.RowNames.{RowNames}
use Rattle.inspectors.specs.Trees.{row_name, entry_name, cell, cell_of_two, first_cell, plus_one}
use Rattle.inspectors.specs.Expressions.{column}
use Rattle.inspectors.specs.Layouts.{add_value}
use Rattle.inspectors.specs.Marks.{over_entries, over_rows}

-- the length of a row
abbrev pub row_length : Matrix → Index
row_length m = Minus (At (cell m.index (plus_one (Var row_name)))) (At (cell m.index (Var row_name)))

-- the length of the longest row so far
abbrev pub longest : RowNames → Index
longest b = At (first_cell b.wid)

abbrev pub longer : Matrix → RowNames → Test
longer m b = record { left = longest b; cmp = Less; right = row_length m }

abbrev pub put_width : Matrix → RowNames → Stmt
put_width m b = Put (first_cell b.wid) (row_length m)

abbrev pub widen : Matrix → RowNames → Stmt
widen m b = If (longer m b ∷ []) (put_width m b ∷ [])

-- the width becomes the length of the longest row
abbrev pub widths : Matrix → RowNames → List Stmt
widths m b = Declare b.wid Position [] ∷ Grow b.wid (Const (pos 1)) ∷ over_rows m.rows (widen m b ∷ []) ∷ []

abbrev pub declare : List ℕ → Kind → RowNames → Stmt
declare x kind b = Declare x kind (longest b ∷ [])

abbrev pub grow : Matrix → List ℕ → Stmt
grow m x = Grow x (Var m.rows)

abbrev pub grown : List Stmt → Matrix → RowNames → List Stmt
grown before m b = before ++ grow m b.lay ∷ [] ++ grow m b.lcol ∷ []

-- an array for the values, and one for the columns
abbrev pub arrays : Matrix → RowNames → List Stmt
arrays m b = grown (declare b.lay Number b ∷ declare b.lcol Position b ∷ []) m b

-- an entry's cell: its row, and its place in the row
abbrev pub cell_in_row : Matrix → List ℕ → Cell
cell_in_row m x = cell_of_two x (Var row_name) (Minus (Var entry_name) (At (cell m.index (Var row_name))))

abbrev pub put_column : Matrix → RowNames → Stmt
put_column m b = Put (cell_in_row m b.lcol) (column m)

abbrev pub padded : Matrix → RowNames → List Stmt
padded m b = add_value m (cell_in_row m b.lay) ∷ put_column m b ∷ []

abbrev pub over_all : Matrix → RowNames → Stmt
over_all m b = over_rows m.rows (over_entries m.index (padded m b) ∷ [])

unfoldable pub padded_lines : Matrix → RowNames → List Stmt
padded_lines m b = widths m b ++ arrays m b ++ over_all m b ∷ []
