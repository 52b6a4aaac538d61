-- Forms in which a level is replaced by a group of values: v = low + factor*q + r.
use Rattle.std.specs.Prelude.{ℕ, suc, ◌+◌, ◌^◌, List, [], ◌∷◌, ◌++◌, take, drop, map, ℤ, pos, negsuc, ◌+ℤ◌, ◌-ℤ◌, Option, Some, None}
use Rattle.int_rows.specs.declared.row.Aff.{Aff}
use Rattle.nest_core.specs.Numbers.{judged_number, product}
use Rattle.unroll.specs.Bounds.{coef}

-- a number that is past the limit, where the wanted one is; the command is then refused at its place
abbrev pub or_past : Option ℤ → ℤ
or_past (Some z) = z
or_past None = pos (2 ^ 126 + 1)

unfoldable pub sum : ℤ → ℤ → ℤ
sum a b = or_past (judged_number (a +ℤ b))

unfoldable pub difference : ℤ → ℤ → ℤ
difference a b = or_past (judged_number (a -ℤ b))

-- the numbers with others in the place of one of them
unfoldable pub with_group : List ℤ → ℕ → List ℤ → List ℤ
with_group zs at group = take at zs ++ group ++ drop (suc at) zs

abbrev pub negated : List ℤ → List ℤ
negated zs = map (difference (pos 0)) zs

-- the level's value, by its lower row: its lower bound, and multiples of the new levels, and a constant
unfoldable pub value_form : Aff → ℕ → List ℤ → ℤ → Aff
value_form lower at group more = record { coefs = with_group (negated lower.coefs) at group; constant = difference more lower.constant }

abbrev pub plus : ℤ → Option ℤ → ℤ
plus start (Some p) = sum start p
plus start None = pos (2 ^ 126 + 1)

-- a number with a multiple of another
unfoldable pub plus_multiple : ℤ → ℤ → ℤ → ℤ
plus_multiple start times z = plus start (product times z)

abbrev pub plus_multiples : List ℤ → ℤ → List ℤ → List ℤ
plus_multiples [] times _ = []
plus_multiples (s ∷ ss) times [] = []
plus_multiples (s ∷ ss) times (z ∷ zs) = plus_multiple s times z ∷ plus_multiples ss times zs

-- the form with the level replaced by a value; `none` has a 0 for each new level
unfoldable pub replaced : Aff → ℕ → Aff → List ℤ → Aff
replaced f at value none = record { coefs = plus_multiples (with_group f.coefs at none) (coef f at) value.coefs; constant = plus_multiple f.constant (coef f at) value.constant }

-- the form that is at least 0 exactly where this one is below 0
unfoldable pub beyond : Aff → Aff
beyond f = record { coefs = negated f.coefs; constant = difference (negsuc 0) f.constant }
