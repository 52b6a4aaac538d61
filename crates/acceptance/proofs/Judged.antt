-- Nothing is said against a source where none of the faults is.
use Rattle.std.proofs.Common.{◌≡◌, List, [], ◌∷◌, refl, Some, None}
use Rattle.std.specs.List.{AllByRecursion}
use Rattle.acceptance.specs.Judged.{Judged, first}

abbrev pub IsNone : Judged → Type 0
IsNone j = j ≡ None

pub none_first : (js : List Judged) → AllByRecursion IsNone js → first js ≡ None
unfolding first
none_first [] h = refl
none_first (None ∷ js) h = none_first js h.1
none_first (Some f ∷ js) h = h.0

pub first_none : (js : List Judged) → first js ≡ None → AllByRecursion IsNone js
unfolding first
first_none [] h = tt
first_none (None ∷ js) h = (refl, first_none js h)
first_none (Some f ∷ js) h = absurd cc
