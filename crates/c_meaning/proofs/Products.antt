-- A product is bounded by its factors' bounds.
use Rattle.std.proofs.Common.{ℕ, ◌*◌, ◌≤◌, ◌^◌, ℤ, ◌*ℤ◌, unsigned_abs, FitsSigned, w64, arith}
use Rattle.std.proofs.lemmas.Int.{fits_signed_mul, unsigned_abs-mul}
use Rattle.std.proofs.Math.Nat.{mul-le-mul_left}

pub product_fits : (f v : ℤ) (w : ℕ) → unsigned_abs v ≤ w → unsigned_abs f * w ≤ 2 ^ 62 → FitsSigned w64 (f *ℤ v)
product_fits f v w h k = fits_signed_mul w64 f v (unsigned_abs f) w (omega arith) h (omega arith)

pub product_within : (f v : ℤ) (w : ℕ) → unsigned_abs v ≤ w → unsigned_abs (f *ℤ v) ≤ unsigned_abs f * w
product_within f v w h = rw (unsigned_abs-mul f v) (mul-le-mul_left (unsigned_abs f) h)
