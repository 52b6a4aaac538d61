-- The value of an entry lies between the least and the greatest value of its form.
use Rattle.std.proofs.Common.{◌≡◌, sym, subst, ℕ, suc, ◌-◌, ◌*◌, ◌/◌, ◌≤◌, ◌<◌, ℤ, pos, negsuc, ◌+ℤ◌, ◌-ℤ◌, ◌*ℤ◌, neg_ℤ, ◌≤ℤ◌, arith}
use Rattle.std.proofs.lemmas.Int.{ints}
use Rattle.std.specs.Int.{int_div_euclid, int_min, int_max}
use Rattle.std.proofs.lemmas.Nat.{le-div}
use Rattle.std.proofs.Math.Nat.{div-mul-le_self, mul-le-mul_left, zero-mul}

pub div_rises : (a b t : ℕ) → 0 < t → a ≤ b → a / t ≤ b / t
div_rises a b t p h = le-div (a / t) b t p (let q : a / t * t ≤ a = div-mul-le_self a t in omega (arith, q, h))

pub floor_rises : (x y : ℤ) (t : ℕ) → 0 < t → x ≤ℤ y → int_div_euclid x (pos t) ≤ℤ int_div_euclid y (pos t)
floor_rises (pos a) (pos b) t p h = let q : a / t ≤ b / t = div_rises a b t p (grind (arith, ints, h)) in grind (arith, ints, q)
floor_rises (pos a) (negsuc b) t p h = absurd (grind (arith, ints, h))
floor_rises (negsuc a) (pos b) t p h = grind (arith, ints)
floor_rises (negsuc a) (negsuc b) t p h = let q : b / t ≤ a / t = div_rises b a t p (grind (arith, ints, h)) in grind (arith, ints, q)

-- c times a row is between its least and its greatest value
neg_falls : (a b : ℕ) → a ≤ b → neg_ℤ (pos b) ≤ℤ neg_ℤ (pos a)
neg_falls a b h = grind (arith, ints, h)

last_row : (k r n : ℕ) → r < n → k * r ≤ k * (n - 1)
last_row k r n h = mul-le-mul_left k (let q : r ≤ n - 1 = omega (arith, h) in q)

least : (c : ℤ) (r n : ℕ) → r < n → (int_min (pos 0) c *ℤ pos (n - 1)) ≤ℤ (c *ℤ pos r)
least (pos k) r n h =
    let e : int_min (pos 0) (pos k) ≡ pos 0 = grind (arith, ints) in
    let z : 0 * (n - 1) ≡ 0 = zero-mul (n - 1) in
    subst (λ x. (x *ℤ pos (n - 1)) ≤ℤ pos (k * r)) (sym e) (subst (λ x. pos x ≤ℤ pos (k * r)) (sym z) (grind (arith, ints)))
least (negsuc k) r n h = neg_falls (suc k * r) (suc k * (n - 1)) (last_row (suc k) r n h)

greatest_row : (c : ℤ) (r n : ℕ) → r < n → (c *ℤ pos r) ≤ℤ (int_max (pos 0) c *ℤ pos (n - 1))
greatest_row (pos k) r n h =
    let e : int_max (pos 0) (pos k) ≡ pos k = grind (arith, ints) in
    let q : k * r ≤ k * (n - 1) = last_row k r n h in
    subst (λ x. pos (k * r) ≤ℤ (x *ℤ pos (n - 1))) (sym e) (grind (arith, ints, q))
greatest_row (negsuc k) r n h =
    let z : 0 * (n - 1) ≡ 0 = zero-mul (n - 1) in
    subst (λ x. neg_ℤ (pos (suc k * r)) ≤ℤ pos x) (sym z) (grind (arith, ints))

-- the value of an entry lies between the least and the greatest value of the form
pub value_inside : (c s0 : ℤ) (t r n col m : ℕ) → 0 < t → r < n → col < m
    → let w : ℤ = int_div_euclid ((pos col +ℤ (c *ℤ pos r)) +ℤ s0) (pos t) in
    let lo : ℤ = int_div_euclid (s0 +ℤ (int_min (pos 0) c *ℤ pos (n - 1))) (pos t) in
    let hi : ℤ = int_div_euclid (((pos m -ℤ pos 1) +ℤ s0) +ℤ (int_max (pos 0) c *ℤ pos (n - 1))) (pos t) in
    (lo ≤ℤ w) × (w ≤ℤ hi)
value_inside c s0 t r n col m p h k = (
  floor_rises _ _ t p (below (int_min (pos 0) c *ℤ pos (n - 1)) (c *ℤ pos r) s0 col (least c r n h)),
  floor_rises _ _ t p (above (c *ℤ pos r) (int_max (pos 0) c *ℤ pos (n - 1)) s0 col m k (greatest_row c r n h)),
)
  where
    below : (x y s0 : ℤ) (col : ℕ) → x ≤ℤ y → (s0 +ℤ x) ≤ℤ ((pos col +ℤ y) +ℤ s0)
    below x y s0 col h = omega (arith, ints, h)

    above : (x y s0 : ℤ) (col m : ℕ) → col < m → x ≤ℤ y → ((pos col +ℤ x) +ℤ s0) ≤ℤ (((pos m -ℤ pos 1) +ℤ s0) +ℤ y)
    above x y s0 col m k h = omega (arith, ints, h, k)
