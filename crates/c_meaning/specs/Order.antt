-- Which elements are in a list, and which stands before which.
use Rattle.std.specs.Prelude.{◌≡◌, ◌⊎◌, true, List, [], ◌∷◌}
use Rattle.c_meaning.specs.Ground.{Step, conflicts}
use Rattle.c_meaning.specs.Listing.{Item}

abbrev pub IsIn : {A : Type 0} → A → List A → Type 0
IsIn x [] = ⊥
IsIn x (y ∷ ys) = (x ≡ y) ⊎ IsIn x ys

-- the first stands somewhere before the second
abbrev pub StandsBefore : {A : Type 0} → A → A → List A → Type 0
StandsBefore x y [] = ⊥
StandsBefore x y (z ∷ zs) = ((x ≡ z) × IsIn y zs) ⊎ StandsBefore x y zs

-- nothing is in the list twice
abbrev pub HasNoTwice : {A : Type 0} → List A → Type 0
HasNoTwice [] = Unit
HasNoTwice (x ∷ xs) = (IsIn x xs → ⊥) × HasNoTwice xs

-- The same assignments in another order. An item is an assignment with a place of its own, so that equal assignments
-- are told apart. Each conflicting pair stands in the new list as in the old one.
pub record IsReordering (old new : List (Item Step)) : Type 0 where
  pub old_once : HasNoTwice old
  pub new_once : HasNoTwice new
  pub each : (i : Item Step) → IsIn i new → IsIn i old
  pub all : (i : Item Step) → IsIn i old → IsIn i new
  pub keeps : (i j : Item Step) → conflicts i.step j.step ≡ true → StandsBefore i j old → StandsBefore i j new
