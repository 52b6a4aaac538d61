-- The pieces of `unroll` for the values of one level: v = low + factor*q + r.
use Rattle.std.specs.Prelude.{◌≡◌, ℕ, zero, suc, List, [], ◌∷◌, ℤ, pos, ◌+ℤ◌, ◌-ℤ◌, ◌*ℤ◌, ◌≤ℤ◌, ◌<ℤ◌}

-- an upper row b*v <= u of the level, where b is 1 more than the number here
pub record Upper : Type 0 where
  pub less_one : ℕ
  pub bound : ℤ

abbrev pub MeetsUpper : ℤ → Upper → Type 0
MeetsUpper v u = (pos (suc u.less_one) *ℤ v) ≤ℤ u.bound

-- the value meets all upper rows
abbrev pub MeetsUppers : ℤ → List Upper → Type 0
MeetsUppers v [] = Unit
MeetsUppers v (u ∷ us) = MeetsUpper v u × MeetsUppers v us

-- the full piece, or the rest piece of an upper row, counted from 0
pub data Part : Type 0 where
  full : Part
  rest : ℕ → Part

-- a group is of the full piece where its last value meets all upper rows, and else of the rest piece of the first that it doesn't meet
abbrev pub IsOf : Part → ℤ → List Upper → Type 0
IsOf full last [] = Unit
IsOf full last (u ∷ us) = MeetsUpper last u × IsOf full last us
IsOf (rest zero) last [] = ⊥
IsOf (rest zero) last (u ∷ us) = (u.bound +ℤ pos 1) ≤ℤ (pos (suc u.less_one) *ℤ last)
IsOf (rest (suc k)) last [] = ⊥
IsOf (rest (suc k)) last (u ∷ us) = MeetsUpper last u × IsOf (rest k) last us

-- the rows that a rest piece has for the value itself; the full piece needs none
abbrev pub OwnRows : Part → ℤ → List Upper → Type 0
OwnRows full v us = Unit
OwnRows (rest k) v us = MeetsUppers v us

-- the rows of a piece at the group q and the place r in it; the full piece has a copy for each r, the rest pieces have r as a level
pub record IsUnrolled (low : ℤ) (factor : ℕ) (us : List Upper) (part : Part) (q r v : ℤ) : Type 0 where
  pub value : v ≡ low +ℤ ((pos factor *ℤ q) +ℤ r)
  pub group : pos 0 ≤ℤ q
  pub from : pos 0 ≤ℤ r
  pub to : r <ℤ pos factor
  pub is_of : IsOf part (low +ℤ ((pos factor *ℤ q) +ℤ (pos factor -ℤ pos 1))) us
  pub own : OwnRows part v us
