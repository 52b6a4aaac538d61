-- The first of a list of candidates that is open.
use Rattle.std.specs.Prelude.{Bool, true, false, List, [], ◌∷◌, Option, Some, None}

-- each candidate is looked at in order: one that is decided by true is excluded, and the first that is decided by false gives the answer
pub data IsFirst {C D : Type 0} (Decided : C → Bool → Type 0) (answer : C → D) : List C → Option D → Type 0 where
  none : IsFirst Decided answer [] None
  excluded : (c : C) (cs : List C) (r : Option D) → Decided c true → IsFirst Decided answer cs r → IsFirst Decided answer (c ∷ cs) r
  found : (c : C) (cs : List C) → Decided c false → IsFirst Decided answer (c ∷ cs) (Some (answer c))
