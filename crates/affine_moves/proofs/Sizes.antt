-- The sizes of numbers of forms.
use Rattle.std.proofs.Common.{◌≡◌, ◌≤◌, ◌^◌, ◌+◌, ◌*◌, ℕ, ℤ, ◌+ℤ◌, ◌*ℤ◌, unsigned_abs, true, arith}
use Rattle.std.proofs.lemmas.Int.{ints, fits_signed_from_abs, unsigned_abs-mul}
use Rattle.std.proofs.Math.Facts.{leb_yes}
use Rattle.std.proofs.Math.Nat.{mul-le-mul}
use mir.Val.{SFits}
use mir.Syntax.{w32, w64, w128}
use Rattle.affine_moves.specs.Levels.{is_within}

pub within_fits : (z : ℤ) → true ≡ is_within z → SFits w64 z
within_fits z e =
    let low : unsigned_abs z ≤ 2 ^ 62 = leb_yes (rw (← e) tt) in
    fits_signed_from_abs w64 z (omega (arith, low))

pub product-le : (a b : ℤ) (m n : ℕ) → unsigned_abs a ≤ m → unsigned_abs b ≤ n → unsigned_abs (a *ℤ b) ≤ m * n
product-le a b m n h k = rw (unsigned_abs-mul a b) (mul-le-mul h k)

pub sum-le : (a b : ℤ) (m n : ℕ) → unsigned_abs a ≤ m → unsigned_abs b ≤ n → unsigned_abs (a +ℤ b) ≤ m + n
sum-le a b m n h k = omega (arith, ints, h, k)

pub small_32 : (z : ℤ) → SFits w32 z → unsigned_abs z ≤ 2 ^ 31
small_32 z f = omega (arith, ints, f.sfits)

pub small_64 : (z : ℤ) → SFits w64 z → unsigned_abs z ≤ 2 ^ 63
small_64 z f = omega (arith, ints, f.sfits)

-- a sum of a number and a product
pub multiple-le : (t c n : ℤ) (m : ℕ) → unsigned_abs t ≤ m → SFits w32 c → unsigned_abs n ≤ 2 ^ 63 → unsigned_abs (t +ℤ c *ℤ n) ≤ m + 2 ^ 94
multiple-le t c n m h f k =
    let p : unsigned_abs (c *ℤ n) ≤ 2 ^ 31 * 2 ^ 63 = product-le c n (2 ^ 31) (2 ^ 63) (small_32 c f) k in
    sum-le t (c *ℤ n) m (2 ^ 94) h p

pub multiple-fits : (t c n : ℤ) (m : ℕ) → m ≤ 2 ^ 100 → unsigned_abs t ≤ m → SFits w32 c → unsigned_abs n ≤ 2 ^ 63 → SFits w128 (t +ℤ c *ℤ n)
multiple-fits t c n m l h f k = let s = multiple-le t c n m h f k in fits_signed_from_abs w128 (t +ℤ c *ℤ n) (omega (arith, l, s))
