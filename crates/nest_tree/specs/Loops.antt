-- Loops with evaluated bounds, guards and assignments, and the list that they perform.
use Rattle.std.specs.Prelude.{◌≡◌, ◌⊎◌, ℕ, zero, suc, ◌+◌, List, [], ◌∷◌, ◌++◌, map, ℤ, pos, negsuc, ◌+ℤ◌, ◌-ℤ◌, ◌≤ℤ◌, ◌<ℤ◌, Bool, true, if◌then◌else◌}
use Rattle.nest_tree.specs.Places.{Item}

-- the values of the loops around, from the outside
abbrev pub Levels : Type 0
Levels = List ℤ

-- children of a loop or of the text, one after another: each has what it does, as a function of the values of the loops
-- around, and the children behind it
pub data Loops (T : Type 0) : Type 0 where
  stop : Loops T
  assign : (Levels → T) → Loops T → Loops T
  loop : (Levels → ℤ) → (Levels → ℤ) → Loops T → Loops T → Loops T
  guard : (Levels → Bool) → Loops T → Loops T → Loops T

-- how many child positions the children take
abbrev pub width : {T : Type 0} → Loops T → ℕ
width stop = 0
width (assign f rest) = suc (width rest)
width (loop low high body rest) = suc (width rest)
width (guard test body rest) = width body + width rest

abbrev pub above_zero : ℤ → ℕ
above_zero (pos n) = n
above_zero (negsuc n) = 0

-- k turns, for v and the numbers after it
abbrev pub turns : {X : Type 0} → ℕ → ℤ → (ℤ → List X) → List X
turns zero v f = []
turns (suc k) v f = f v ++ turns k (v +ℤ pos 1) f

-- an item of a loop's body, at child position n and loop value v
abbrev pub inside : {T : Type 0} → ℕ → ℤ → Item T → Item T
inside n v i = record { place = pos n ∷ v ∷ i.place; step = i.step }

-- the list that the children perform, from child position n on
abbrev pub performed : {T : Type 0} → Loops T → Levels → ℕ → List (Item T)
performed stop e n = []
performed (assign f rest) e n = record { place = pos n ∷ []; step = f e } ∷ performed rest e (suc n)
performed (loop low high body rest) e n = turns (above_zero (high e -ℤ low e)) (low e) (λ v. map (inside n v) (performed body (e ++ v ∷ []) 0)) ++ performed rest e (suc n)
performed (guard test body rest) e n = (if test e then performed body e n else []) ++ performed rest e (n + width body)

-- an item that the children perform: each loop's value is within its bounds, and each test is true
abbrev pub IsPerformed : {T : Type 0} → Loops T → Levels → ℕ → Item T → Type 0
IsPerformed stop e n i = ⊥
IsPerformed (assign f rest) e n i = (i ≡ record { place = pos n ∷ []; step = f e }) ⊎ IsPerformed rest e (suc n) i
IsPerformed {T} (loop low high body rest) e n i =
    ((v : ℤ) × (j : Item T) × (low e ≤ℤ v) × (v <ℤ high e) × IsPerformed body (e ++ v ∷ []) 0 j × (i ≡ inside n v j)) ⊎ IsPerformed rest e (suc n) i
IsPerformed (guard test body rest) e n i = ((test e ≡ true) × IsPerformed body e n i) ⊎ IsPerformed rest e (n + width body) i
