-- A place that isn't empty.
use Rattle.std.proofs.Common.{◌≡◌, ◌∷◌, ◌≤◌, ◌-◌, [], refl, length, take, drop, get_or, pos, arith, List, ℤ}
use Rattle.std.proofs.lemmas.List.{take_all, length-drop}

pub first_and_others : (xs : List ℤ) → 1 ≤ length xs → xs ≡ get_or xs 0 (pos 0) ∷ drop 1 xs
first_and_others [] h = absurd (omega (arith, h))
first_and_others (x ∷ xs) h = refl

pub all_others : (xs : List ℤ) → take (length xs - 1) (drop 1 xs) ≡ drop 1 xs
all_others xs = take_all (length xs - 1) (drop 1 xs) (omega (arith, length-drop 1 xs))
