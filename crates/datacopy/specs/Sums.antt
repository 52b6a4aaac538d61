-- Numbers of set work, each judged where it is made.
use Rattle.std.specs.Prelude.{cond, ℤ, pos, ◌+ℤ◌, ◌-ℤ◌, ◌*ℤ◌, unsigned_abs, Option, Some, None}
use Rattle.nest_core.specs.Numbers.{is_small, judged_number}

-- a - m * b, where the product and the difference are within the limit
abbrev pub less_multiple : ℤ → ℤ → ℤ → Option ℤ
less_multiple a m b = cond (is_small (m *ℤ b)) (judged_number (a -ℤ m *ℤ b)) None

-- a + m * b, where the product and the sum are within the limit
abbrev pub plus_multiple : ℤ → ℤ → ℤ → Option ℤ
plus_multiple a m b = cond (is_small (m *ℤ b)) (judged_number (a +ℤ m *ℤ b)) None

-- the size, where it is within the limit
abbrev pub judged_size : ℤ → Option ℤ
judged_size z = cond (is_small z) (Some (pos (unsigned_abs z))) None
