-- Numbers of forms; a list of them has 0 behind its end.
use Rattle.std.specs.Prelude.{ℕ, suc, ◌-◌, Bool, List, [], ◌∷◌, ◌++◌, length, replicate, ℤ, pos, ◌+ℤ◌, ◌-ℤ◌, ◌&&◌, slice_index_or, slice_set}
use Rattle.std.specs.Int.{w128, saturate_signed}
use Rattle.std.specs.Ordering.{int_eq}
use Rattle.std.specs.List.{list_all}

abbrev pub number_at : ℕ → List ℤ → ℤ
number_at at zs = slice_index_or zs at (pos 0)

abbrev pub is_zero : ℤ → Bool
is_zero z = int_eq z (pos 0)

abbrev pub are_zero : List ℤ → Bool
are_zero zs = list_all is_zero zs

-- the lists have the same numbers
abbrev pub same_numbers : List ℤ → List ℤ → Bool
same_numbers [] ys = are_zero ys
same_numbers (x ∷ xs) [] = is_zero x && are_zero xs
same_numbers (x ∷ xs) (y ∷ ys) = int_eq x y && same_numbers xs ys

-- the opposite, and the next number, in 128 bits: what is past them is past every limit
abbrev pub opposite : ℤ → ℤ
opposite z = saturate_signed w128 (pos 0 -ℤ z)

abbrev pub next : ℤ → ℤ
next z = saturate_signed w128 (z +ℤ pos 1)

abbrev pub plus : ℤ → ℤ → ℤ
plus a b = saturate_signed w128 (a +ℤ b)

-- zeros up to a place, where there are fewer numbers
unfoldable pub padded : ℕ → List ℤ → List ℤ
padded at zs = zs ++ replicate (suc at - length zs) (pos 0)

-- a number more at a place
abbrev pub added_at : ℕ → ℤ → List ℤ → List ℤ
added_at at z zs = slice_set (padded at zs) at (plus (number_at at (padded at zs)) z)
