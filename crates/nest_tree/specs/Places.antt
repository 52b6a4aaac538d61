-- Places of instances: child position, loop value, child position, and so on, and the order of places.
use Rattle.std.specs.Prelude.{◌≡◌, ◌⊎◌, ℕ, List, [], ◌∷◌, map, ℤ, pos, ◌<ℤ◌}

-- one place is before another: smaller at the first number at which they differ, or a part of it
abbrev pub IsBefore : List ℤ → List ℤ → Type 0
IsBefore [] [] = ⊥
IsBefore [] (y ∷ ys) = Unit
IsBefore (x ∷ xs) [] = ⊥
IsBefore (x ∷ xs) (y ∷ ys) = (x <ℤ y) ⊎ ((x ≡ y) × IsBefore xs ys)

-- one statement stands before another in the text, by their positions
abbrev pub IsTextBefore : List ℕ → List ℕ → Type 0
IsTextBefore ps qs = IsBefore (map pos ps) (map pos qs)

-- the place of an instance, by its statement's positions and its level values
abbrev pub place : List ℕ → List ℤ → List ℤ
place [] vs = []
place (p ∷ ps) [] = pos p ∷ []
place (p ∷ ps) (v ∷ vs) = pos p ∷ v ∷ place ps vs

-- there is one position more than there are level values
abbrev pub IsInstance : List ℕ → List ℤ → Type 0
IsInstance [] vs = ⊥
IsInstance (p ∷ []) [] = Unit
IsInstance (p ∷ []) (v ∷ vs) = ⊥
IsInstance (p ∷ p' ∷ ps) [] = ⊥
IsInstance (p ∷ p' ∷ ps) (v ∷ vs) = IsInstance (p' ∷ ps) vs

-- something that is done at a place
pub record Item (T : Type 0) : Type 0 where
  pub place : List ℤ
  pub step : T

abbrev pub Precedes : {T : Type 0} → Item T → Item T → Type 0
Precedes i j = IsBefore i.place j.place
