-- The number that digits are, read from the left.
use Rattle.std.proofs.Common.{ℕ, zero, suc, ◌+◌, ◌-◌, ◌*◌, ◌<◌, ◌≤◌, List, [], ◌∷◌, length, take, get_or, arith}
use Rattle.std.specs.Prelude.{fold}
use Rattle.c_tokens.specs.Pieces.{value}

abbrev step : ℕ → ℕ → ℕ
step n b = 10 * n + (b - 48)

-- more digits make no smaller number
grows : (n : ℕ) (ys : List ℕ) → n ≤ fold step n ys
grows n [] = omega arith
grows n (y ∷ ys) = omega (arith, grows (step n y) ys)

from_front : (n : ℕ) (xs : List ℕ) (i d : ℕ) → i < length xs → 10 * fold step n (take i xs) + (get_or xs i d - 48) ≤ fold step n xs
from_front n [] i d below = absurd (omega arith)
from_front n (x ∷ xs) zero d below = grows (step n x) xs
from_front n (x ∷ xs) (suc i) d below = from_front (step n x) xs i d (omega arith)

-- the digits up to a place are no more than all of them
pub value_at : (xs : List ℕ) (i d : ℕ) → i < length xs → 10 * value (take i xs) + (get_or xs i d - 48) ≤ value xs
value_at xs i d below = from_front 0 xs i d below
