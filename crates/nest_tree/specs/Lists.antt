-- Lists in strict order, and "the list of the things that are so".
use Rattle.std.specs.Prelude.{◌≡◌, ◌⊎◌, ℕ, zero, suc, List, [], ◌∷◌}

-- the thing stands in the list
abbrev pub IsIn : {A : Type 0} → A → List A → Type 0
IsIn x [] = ⊥
IsIn x (y ∷ ys) = (x ≡ y) ⊎ IsIn x ys

-- each element stands before all those behind it
abbrev pub IsStrictlySorted : {A : Type 0} → (A → A → Type 0) → List A → Type 0
IsStrictlySorted R [] = Unit
IsStrictlySorted {A} R (x ∷ xs) = ((y : A) → IsIn y xs → R x y) × IsStrictlySorted R xs

-- a strict order
pub record IsStrictOrder {A : Type 0} (R : A → A → Type 0) : Type 0 where
  pub irreflexive : (x : A) → R x x → ⊥
  pub transitive : (x y z : A) → R x y → R y z → R x z

-- the list, in strict order, of exactly the things for which P holds
pub record IsListOf {A : Type 0} (R : A → A → Type 0) (P : A → Type 0) (xs : List A) : Type 0 where
  pub sorted : IsStrictlySorted R xs
  pub each : (x : A) → IsIn x xs → P x
  pub all : (x : A) → P x → IsIn x xs

-- the thing stands at place n of the list, counted from 0
abbrev pub IsAt : {A : Type 0} → ℕ → A → List A → Type 0
IsAt n x [] = ⊥
IsAt zero x (y ∷ ys) = x ≡ y
IsAt (suc n) x (y ∷ ys) = IsAt n x ys

-- the lists are equally long, and the relation holds of each two things at one place
abbrev pub Pairwise : {A B : Type 0} → (A → B → Type 0) → List A → List B → Type 0
Pairwise R [] [] = Unit
Pairwise R [] (y ∷ ys) = ⊥
Pairwise R (x ∷ xs) [] = ⊥
Pairwise R (x ∷ xs) (y ∷ ys) = R x y × Pairwise R xs ys
