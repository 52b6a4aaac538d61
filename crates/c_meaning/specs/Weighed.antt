-- Values of index expressions with their weights.
use Rattle.std.specs.Prelude.{ℕ, ◌+◌, ◌*◌, ◌^◌, max, ℤ, ◌+ℤ◌, ◌-ℤ◌, ◌*ℤ◌, neg_ℤ, unsigned_abs}
use Rattle.std.specs.Int.{int_min, int_max, int_div_euclid}

-- a value with its weight
pub record Weighed : Type 0 where
  pub value : ℤ
  pub weight : ℕ

-- the greatest weight that has a value
abbrev pub greatest : ℕ
greatest = 2 ^ 62

-- a constant, or the value of a name or of a cell
abbrev pub plain : ℤ → Weighed
plain n = record { value = n; weight = unsigned_abs n }

abbrev pub negated : Weighed → Weighed
negated a = record { value = neg_ℤ a.value; weight = a.weight }

abbrev pub sum_of : Weighed → Weighed → Weighed
sum_of a b = record { value = a.value +ℤ b.value; weight = a.weight + b.weight }

abbrev pub difference_of : Weighed → Weighed → Weighed
difference_of a b = record { value = a.value -ℤ b.value; weight = a.weight + b.weight }

abbrev pub multiple_of : ℤ → Weighed → Weighed
multiple_of c a = record { value = c *ℤ a.value; weight = unsigned_abs c * a.weight }

abbrev pub lesser_of : Weighed → Weighed → Weighed
lesser_of a b = record { value = int_min a.value b.value; weight = max a.weight b.weight }

abbrev pub greater_of : Weighed → Weighed → Weighed
greater_of a b = record { value = int_max a.value b.value; weight = max a.weight b.weight }

-- the greatest q with d * q at most the value, for a positive d
abbrev pub floor_of : Weighed → ℤ → Weighed
floor_of a d = record { value = int_div_euclid a.value d; weight = a.weight }

-- the least q with d * q at least the value, for a positive d
abbrev pub ceil_of : Weighed → ℤ → Weighed
ceil_of a d = negated (floor_of (negated a) d)
