-- Sums and products that stop at the ends of 128 bits, where they are past the limit of set work anyway.
use Rattle.std.specs.Prelude.{ℕ, ℤ, pos, ◌+ℤ◌, ◌-ℤ◌, ◌*ℤ◌, List, slice_index_or}
use Rattle.std.specs.Int.{w128, saturate_signed}

unfoldable pub stopped_sum : ℤ → ℤ → ℤ
stopped_sum a b = saturate_signed w128 (a +ℤ b)

unfoldable pub stopped_difference : ℤ → ℤ → ℤ
stopped_difference a b = saturate_signed w128 (a -ℤ b)

unfoldable pub stopped_product : ℤ → ℤ → ℤ
stopped_product a b = saturate_signed w128 (a *ℤ b)

-- the number at a place, or 0 behind the end
unfoldable pub number_at : List ℤ → ℕ → ℤ
number_at zs place = slice_index_or zs place (pos 0)
