-- The least or the greatest of some expressions, nested to the right.
use Rattle.std.specs.Prelude.{Bool, true, false, List, [], ◌∷◌, pos}
use Rattle.c_tree.specs.declared.index.Index.{Index}
use Rattle.c_tree.specs.declared.index.Index.TheVariants.{Const, Min, Max}

abbrev pub pair : Bool → Index → Index → Index
pair true a b = Max a b
pair false a b = Min a b

-- some expressions and a last one
abbrev pub nested_before : Bool → List Index → Index → Index
nested_before greatest [] last = last
nested_before greatest (t ∷ ts) last = pair greatest t (nested_before greatest ts last)

-- of one expression it is that one, and of none 0, as an empty sum
abbrev pub nested_from : Bool → Index → List Index → Index
nested_from greatest t [] = t
nested_from greatest t (u ∷ us) = pair greatest t (nested_from greatest u us)

abbrev pub nested : Bool → List Index → Index
nested greatest [] = Const (pos 0)
nested greatest (t ∷ ts) = nested_from greatest t ts
