-- Numbers that are words.
use Rattle.std.specs.Prelude.{ℕ, ◌+◌, ◌-◌, ◌*◌, ◌==◌, nat_le, ◌&&◌, if◌then◌else◌, List, [], ◌∷◌, Option, Some, None, Bool, true, false}
use Rattle.std.specs.Char.{is_ascii_digit}

-- the number that digits write behind one that was read, while it is at most `most`
abbrev pub number_from : ℕ → ℕ → List ℕ → Option ℕ
number_from most n [] = Some n
number_from most n (b ∷ bs) = if is_ascii_digit b && nat_le (10 * n + (b - 48)) most then number_from most (10 * n + (b - 48)) bs else None

-- no digit, or a zero before others
abbrev pub is_no_number : List ℕ → Bool
is_no_number [] = true
is_no_number (b ∷ []) = false
is_no_number (b ∷ c ∷ bs) = b == 48

-- the number that a word is, decimal and without leading zeros
abbrev pub number : ℕ → List ℕ → Option ℕ
number most word = if is_no_number word then None else number_from most 0 word
