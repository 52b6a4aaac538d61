-- Which arrays have the extents that cells need.
use Rattle.std.specs.Prelude.{ℕ, ◌==◌, Bool, true, ◌&&◌, List, ◌∷◌, length, IsTrue}
use Rattle.std.specs.List.{list_all}
use Rattle.c_tree.specs.declared.index.Index.{Index}
use Rattle.c_tree.specs.declared.index.Index.TheOpen.{Subscripts-F, One, Two, Three}
use Rattle.c_tree.specs.declared.index.Cell.{Cell}
use Rattle.c_tree.specs.declared.index.Subscripts.{Subscripts, out-Subscripts}
use Rattle.c_tree.specs.declared.data.Expr.{Expr}
use Rattle.c_tree.specs.declared.program.Array.{Array}
use Rattle.c_tree.specs.declared.program.Matrix.{Matrix}
use Rattle.c_tree.specs.declared.program.Program.{Program}
use Rattle.c_tree.specs.declared.statement.Stmt.{Stmt, fold-Stmt}
use Rattle.c_tree.specs.declared.statement.Stmt.TheOpen.{Stmt-F, For, If, Assign, Put, Declare, Grow}
use Rattle.c_judge.specs.Signature.{extents_of}
use Rattle.source_limits.specs.declared.site.Site.{Site}
use Rattle.source_limits.specs.Cells.{cells_of}

abbrev pub count_layer : Subscripts-F Index Subscripts Cell → ℕ
count_layer (One a) = 1
count_layer (Two a b) = 2
count_layer (Three a b c) = 3

-- how many subscripts there are
abbrev pub subscript_count : Subscripts → ℕ
subscript_count s = count_layer (out-Subscripts s)

-- a cell's array has as many extents as the cell has subscripts
abbrev pub is_declared : List Array → Cell → Bool
is_declared arrays c = length (extents_of arrays c.array) == subscript_count c.at

-- so do all cells of an assignment
abbrev pub are_declared : List Array → Cell → Expr → Bool
are_declared arrays target value = list_all (is_declared arrays) (target ∷ cells_of value)

abbrev pub is_declared_site : List Array → Site → Bool
is_declared_site arrays s = are_declared arrays s.target.now s.value.now

abbrev pub declared_layer : List Array → Stmt-F Bool → Bool
declared_layer arrays (For x low high body) = list_all (λ b. b) body
declared_layer arrays (If tests body) = list_all (λ b. b) body
declared_layer arrays (Assign target how value) = are_declared arrays target value
declared_layer arrays (Put target value) = true
declared_layer arrays (Declare x k inner) = true
declared_layer arrays (Grow x by) = true

-- so do all cells of the assignments to data in a statement
unfoldable pub has_declared : List Array → Stmt → Bool
has_declared arrays = fold-Stmt Bool (declared_layer arrays)

abbrev pub have_declared : List Array → List Stmt → Bool
have_declared arrays = list_all (has_declared arrays)

abbrev pub has_one_extent : List Array → List ℕ → Bool
has_one_extent arrays x = length (extents_of arrays x) == 1

abbrev pub is_declared_matrix : List Array → Matrix → Bool
is_declared_matrix arrays m = has_one_extent arrays m.index && has_one_extent arrays m.col

-- the arrays of rows and of columns have one extent each
pub record HasMatrices (p : Program) : Type 0 where
  pub each : IsTrue (list_all (is_declared_matrix p.arrays) p.matrices)
