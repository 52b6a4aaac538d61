-- The lines that find the kept values of a compacted level.
use Rattle.std.specs.Prelude.{ℕ, Bool, pos, negsuc, ℤ, List, [], ◌∷◌, ◌++◌}
use Rattle.c_tree.specs.declared.program.Matrix.{Matrix}
use Rattle.c_tree.specs.declared.program.Kind.TheVariants.{Position}
use Rattle.c_tree.specs.declared.index.Index.{Index}
use Rattle.c_tree.specs.declared.index.Index.TheVariants.{Const, Var, At, Max}
use Rattle.c_tree.specs.declared.statement.Cmp.TheVariants.{AtMost}
use Rattle.c_tree.specs.declared.statement.Test.{Test}
use Rattle.c_tree.specs.declared.statement.Stmt.{Stmt}
use Rattle.c_tree.specs.declared.statement.Stmt.TheVariants.{For, If, Put, Declare, Grow}
use Rattle.inspectors.specs.declared.level.Compacted.{Compacted}
use Rattle.inspectors.specs.declared.level.Group.TheVariants.{All, Rows}
use Rattle.inspectors.specs.declared.layout.Layout.{Layout}
use Rattle.inspectors.specs.declared.layout.Layout.TheVariants.{Plain, Block, Diag}
use Rattle.inspectors.specs.declared.names.MarkNames.{MarkNames}
use Rattle.inspectors.specs.Trees.{row_name, entry_name, cell, first_cell, plus_one}
use Rattle.inspectors.specs.Expressions.{value, offset, width, group, next_group, pointers}
use Rattle.inspectors.specs.Layouts.{declaration, growth, store}

-- how many values there are so far
abbrev pub count : MarkNames → Index
count b = At (first_cell b.num)

abbrev pub declare : List ℕ → Stmt
declare x = Declare x Position []

abbrev pub declarations : MarkNames → List Stmt
declarations b = declare b.ptr ∷ declare b.val ∷ declare b.num ∷ declare b.mark ∷ []

-- there is a mark for each value that there may be
abbrev pub grow_marks : Compacted → MarkNames → Stmt
grow_marks x b = Grow b.mark (Max (Const (pos 0)) (width x))

abbrev pub growths : Compacted → MarkNames → List Stmt
growths x b = Grow b.ptr (pointers x.matrix x.group) ∷ Grow b.num (Const (pos 1)) ∷ grow_marks x b ∷ []

-- a value is new in its group where its mark isn't above the positions of the groups before
abbrev pub new_test : Compacted → MarkNames → Test
new_test x b = record { left = At (cell b.mark (offset x)); cmp = AtMost; right = At (cell b.ptr (group x.group)) }

-- a new value gets the next position, and its mark
abbrev pub put_value : Compacted → MarkNames → Stmt
put_value x b = Put (cell b.val (count b)) (value x)

abbrev pub put_count : MarkNames → Stmt
put_count b = Put (first_cell b.num) (plus_one (count b))

abbrev pub put_mark : Compacted → MarkNames → Stmt
put_mark x b = Put (cell b.mark (offset x)) (count b)

abbrev pub noted : Compacted → MarkNames → List Stmt
noted x b = put_value x b ∷ put_count b ∷ put_mark x b ∷ []

abbrev pub new_value : Compacted → MarkNames → Layout → List Stmt
new_value x b lay = (Grow b.val (Const (pos 1)) ∷ []) ++ growth lay ++ noted x b

abbrev pub guard : Compacted → MarkNames → Layout → Stmt
guard x b lay = If (new_test x b ∷ []) (new_value x b lay)

abbrev pub entry_lines : Compacted → MarkNames → Layout → List Stmt
entry_lines x b lay = (guard x b lay ∷ []) ++ store x b lay

-- a loop over the entries of a row
abbrev pub over_entries : List ℕ → List Stmt → Stmt
over_entries index body = For entry_name (At (cell index (Var row_name))) (At (cell index (plus_one (Var row_name)))) body

-- a loop over the rows
abbrev pub over_rows : List ℕ → List Stmt → Stmt
over_rows rows body = For row_name (Const (pos 0)) (Var rows) body

-- the values of a group end behind its last row
abbrev pub put_pointer : Compacted → MarkNames → Stmt
put_pointer x b = Put (cell b.ptr (next_group x.group)) (count b)

abbrev pub row_lines : Compacted → MarkNames → Layout → List Stmt
row_lines x b lay = over_entries x.matrix.index (entry_lines x b lay) ∷ put_pointer x b ∷ []

abbrev pub head_lines : Compacted → MarkNames → Layout → List Stmt
head_lines x b lay = declarations b ++ declaration x.matrix lay ++ growths x b

-- all lines of a compacted level
unfoldable pub mark_lines : Compacted → MarkNames → Layout → List Stmt
mark_lines x b lay = head_lines x b lay ++ over_rows x.matrix.rows (row_lines x b lay) ∷ []

-- without a layout
abbrev pub compact_lines : Compacted → MarkNames → List Stmt
compact_lines x b = mark_lines x b Plain

-- with blocks: the values are floord(column, cols), in groups of so many rows
abbrev pub blocks : Matrix → Bool → ℤ → ℤ → Compacted
blocks m cols_first rows cols = record { matrix = m; cols_first = cols_first; form = record { c = pos 0; s0 = pos 0; divisor = cols }; group = Rows rows }

abbrev pub block_lines : Matrix → Bool → ℤ → ℤ → MarkNames → List ℕ → List Stmt
block_lines m cols_first rows cols b lay = mark_lines (blocks m cols_first rows cols) b (Block lay rows cols)

-- with diagonals: the values are the column less the row, in one group
abbrev pub diagonals : Matrix → Bool → Compacted
diagonals m cols_first = record { matrix = m; cols_first = cols_first; form = record { c = negsuc 0; s0 = pos 0; divisor = pos 1 }; group = All }

abbrev pub diag_lines : Matrix → Bool → MarkNames → List ℕ → List Stmt
diag_lines m cols_first b lay = mark_lines (diagonals m cols_first) b (Diag lay)
