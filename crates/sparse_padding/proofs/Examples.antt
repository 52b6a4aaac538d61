-- Worked positions.
use Rattle.std.proofs.Common.{refl, inl, ℕ, ◌^◌, ◌<◌, Bool, true, false, if◌then◌else◌, arith}
use Rattle.c_meaning.specs.Memory.{same_spot}
use Rattle.sparse_padding.specs.Positions.{AreHarmless, HoldSums, AreNumbers}
use Rattle.sparse_padding.specs.Examples.{a, b, x, y, held, positions, is_matrix}

pub harmless : AreHarmless is_matrix positions
harmless = (
  record { compound = refl; unread = inl refl; outside = refl; cell_in = refl; entries_in = refl },
  (record { compound = refl; unread = inl refl; outside = refl; cell_in = refl; entries_in = refl }, tt),
)

pub sums : HoldSums held positions
sums = (refl, (refl, tt))

if_low : (b : Bool) (n k : ℕ) → n < 2 ^ 64 → k < 2 ^ 64 → (if b then n else k) < 2 ^ 64
if_low true n k h l = h
if_low false n k h l = l

pub are_numbers : AreNumbers held
are_numbers = record {
  below = λ z.
      if_low (same_spot z (a 0)) 2 _ (omega arith) (if_low (same_spot z (a 1)) 3 _ (omega arith) (if_low (same_spot z (b 0)) 5 _ (omega arith)
      (if_low (same_spot z (b 2)) 2 _ (omega arith) (if_low (same_spot z x) 10 _ (omega arith) (if_low (same_spot z y) 1 0 (omega arith) (omega arith))))));
}
