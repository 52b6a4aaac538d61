-- How large an expression can be, by its text.
use Rattle.std.specs.Prelude.{ℕ, ◌+◌, ◌*◌, ◌^◌, max, unsigned_abs, cond, bytes_eq, List, [], ◌∷◌}
use Rattle.c_meaning.specs.Names.{Name}
use Rattle.acceptance.specs.Expressions.{Expression, number, name, one, two, three, negated, plus, minus, times, lesser, greater, floor, ceil}

-- a loop variable with the greatest size of its bounds
pub record Size : Type 0 where
  pub name : Name
  pub size : ℕ

-- a parameter, and a read, count 2^24
abbrev pub size_of : List Size → Name → ℕ
size_of [] x = 2 ^ 24
size_of (s ∷ ss) x = cond (bytes_eq s.name x) s.size (size_of ss x)

-- the size of an expression as it stands
abbrev pub weight : List Size → Expression → ℕ
weight sizes (number n) = unsigned_abs n
weight sizes (name x) = size_of sizes x
weight sizes (one a e) = 2 ^ 24
weight sizes (two a e f) = 2 ^ 24
weight sizes (three a e f g) = 2 ^ 24
weight sizes (negated e) = weight sizes e
weight sizes (plus e f) = weight sizes e + weight sizes f
weight sizes (minus e f) = weight sizes e + weight sizes f
weight sizes (times n e) = unsigned_abs n * weight sizes e
weight sizes (lesser e f) = max (weight sizes e) (weight sizes f)
weight sizes (greater e f) = max (weight sizes e) (weight sizes f)
weight sizes (floor e d) = weight sizes e
weight sizes (ceil e d) = weight sizes e
