-- The cells of right sides.
use Rattle.std.specs.Prelude.{List, [], ◌∷◌, ◌++◌}
use Rattle.c_tree.specs.declared.index.Cell.{Cell}
use Rattle.c_tree.specs.declared.data.Expr.{Expr, fold-Expr}
use Rattle.c_tree.specs.declared.data.Expr.TheOpen as expr
use Rattle.c_tree.specs.declared.data.Expr.TheOpen.{Expr-F}

-- the cells of a right side, from the left
abbrev pub cells_layer : Expr-F (List Cell) → List Cell
cells_layer (expr.Const n) = []
cells_layer (expr.At c) = c ∷ []
cells_layer (expr.Plus a b) = a ++ b
cells_layer (expr.Minus a b) = a ++ b
cells_layer (expr.Times a b) = a ++ b

unfoldable pub cells_of : Expr → List Cell
cells_of = fold-Expr (List Cell) cells_layer
