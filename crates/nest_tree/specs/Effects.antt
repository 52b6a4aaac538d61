-- The effect of a list of steps, and lists that are the same but for where each thing stands.
use Rattle.std.specs.Prelude.{List, [], ◌∷◌, ◌≡◌}
use Rattle.nest_tree.specs.Lists.{IsIn}

-- the steps, one after another, on a state
abbrev pub effect : {A S : Type 0} → (A → S → S) → List A → S → S
effect perform [] s = s
effect perform (x ∷ xs) s = effect perform xs (perform x s)

-- the second list has the things of the first, one for one
pub record IsMoved {A B : Type 0} (Goes : A → B → Type 0) (xs : List A) (ys : List B) : Type 0 where
  pub each : (y : B) → IsIn y ys → (x : A) × IsIn x xs × Goes x y
  pub all : (x : A) → IsIn x xs → (y : B) × IsIn y ys × Goes x y
  pub one_new : (x : A) (y z : B) → IsIn x xs → IsIn y ys → IsIn z ys → Goes x y → Goes x z → y ≡ z
  pub one_old : (x w : A) (y : B) → IsIn x xs → IsIn w xs → IsIn y ys → Goes x y → Goes w y → x ≡ w

-- each conflicting pair stands in the new order as in the old one
pub record KeepsOrder {A B : Type 0} (Goes : A → B → Type 0) (Conflict : A → A → Type 0) (R : A → A → Type 0) (Q : B → B → Type 0) (xs : List A) (ys : List B) : Type 0 where
  pub keeps : (x w : A) (y z : B) → IsIn x xs → IsIn w xs → IsIn y ys → IsIn z ys → Goes x y → Goes w z → Conflict x w → R x w → Q y z
