-- The cells that a statement names, in order.
use Rattle.std.specs.Prelude.{List, [], ◌∷◌, ◌++◌}
use Rattle.int_rows.specs.declared.row.Aff.{Aff}
use Rattle.nest_tree.specs.declared.body.Access.{Access}
use Rattle.nest_tree.specs.declared.body.Body.{Body, fold-Body}
use Rattle.nest_tree.specs.declared.body.Body.TheOpen.{Body-F, Const, At, Plus, Minus, Times}
use Rattle.nest_tree.specs.declared.kernel.Nest.{Nest}

abbrev pub reads_layer : Body-F (List Access) → List Access
reads_layer (Const c) = []
reads_layer (At a) = a ∷ []
reads_layer (Plus a b) = a ++ b
reads_layer (Minus a b) = a ++ b
reads_layer (Times a b) = a ++ b

-- the cells of a right side, from the left
unfoldable pub reads : Body → List Access
reads = fold-Body (List Access) reads_layer

-- the cells of a statement: its target, and then those of its right side
unfoldable pub cells : Nest → List Access
cells n = n.target ∷ reads n.value

-- the subscripts of cells, in order
abbrev pub subscripts : List Access → List Aff
subscripts [] = []
subscripts (a ∷ all) = a.at ++ subscripts all
