-- Numbers of set work, and those that are judged.
use Rattle.std.specs.Prelude.{◌^◌, Bool, cond, nat_le, ℤ, ◌*ℤ◌, unsigned_abs, Option, Some, None}

-- whether a number of set work is within the limit
abbrev pub is_small : ℤ → Bool
is_small z = nat_le (unsigned_abs z) (2 ^ 126)

-- the number, where it is within the limit
abbrev pub judged_number : ℤ → Option ℤ
judged_number z = cond (is_small z) (Some z) None

-- the product, where it is within the limit
abbrev pub product : ℤ → ℤ → Option ℤ
product a b = judged_number (a *ℤ b)
