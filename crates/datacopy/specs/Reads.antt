-- The reads of an array in a right side.
use Rattle.std.specs.Prelude.{ℕ, List, [], ◌∷◌, ◌++◌, cond, bytes_eq}
use Rattle.nest_tree.specs.declared.body.Access.{Access}
use Rattle.nest_tree.specs.declared.body.Body.{Body, fold-Body}
use Rattle.nest_tree.specs.declared.body.Body.TheOpen.{Body-F, Const as Const-F, At as At-F, Plus as Plus-F, Minus as Minus-F, Times as Times-F}

-- the cell, where it is one of the array
abbrev pub read_of : List ℕ → Access → List Access
read_of array a = cond (bytes_eq a.array array) (a ∷ []) []

abbrev pub reads_layer : List ℕ → Body-F (List Access) → List Access
reads_layer array (Const-F c) = []
reads_layer array (At-F a) = read_of array a
reads_layer array (Plus-F a b) = a ++ b
reads_layer array (Minus-F a b) = a ++ b
reads_layer array (Times-F a b) = a ++ b

-- the reads of the array, from the left
unfoldable pub reads_of : List ℕ → Body → List Access
reads_of array = fold-Body (List Access) (reads_layer array)
