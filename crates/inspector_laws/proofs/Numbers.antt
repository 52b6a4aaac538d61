-- The sums of a form, and what they are as values of its entries.
use Rattle.std.proofs.Common.{◌≡◌, sym, ap, ◌∙◌, subst, ℕ, suc, ◌+◌, ◌≤◌, ◌^◌, ℤ, pos, negsuc, ◌+ℤ◌, ◌-ℤ◌, ◌*ℤ◌, neg_ℤ, false, cond, arith, unsigned_abs}
use Rattle.std.proofs.lemmas.Int.{ints}
use Rattle.std.specs.Int.{int_div_euclid, int_min, int_max}
use Rattle.std.specs.Int.Signed.{lt_z}
use Rattle.std.proofs.Math.Nat.{one-mul, mul-one, div-one}
use Rattle.std.proofs.Math.IntN.{zero-*ℤ}
use Rattle.chill_base.proofs.Ring.{sum_times, times_sum, neg_times}
use Rattle.inspectors.specs.declared.numbers.KeptForm.{KeptForm}
use Rattle.inspectors.specs.Numbers.{IsSmall, falling, rising, value_sum, low_sum, high_sum, offset_sum, width_sum}
use Rattle.sparse_marks.specs.Forms.{Form}
use Rattle.inspector_laws.specs.Ready.{IsSmallForm}
use Rattle.inspector_laws.proofs.Sums.{sum_value}

abbrev pub kept : Form → KeptForm
kept f = record { c = f.c; s0 = f.s0; divisor = pos f.divisor }

not_below : (n : ℕ) → lt_z (pos n) (pos 0) ≡ false
not_below n = grind (arith, ints)

pub falling_is : (c : ℤ) → falling c ≡ int_min (pos 0) c
falling_is (pos n) = ap (λ b. cond b (pos n) (pos 0)) (not_below n) ∙ (let e : pos 0 ≡ int_min (pos 0) (pos n) = grind (arith, ints) in e)
falling_is (negsuc n) = let e : negsuc n ≡ int_min (pos 0) (negsuc n) = grind (arith, ints) in e

pub rising_is : (c : ℤ) → rising c ≡ int_max (pos 0) c
rising_is (pos n) = ap (λ b. cond b (pos 0) (pos n)) (not_below n) ∙ (let e : pos n ≡ int_max (pos 0) (pos n) = grind (arith, ints) in e)
rising_is (negsuc n) = let e : pos 0 ≡ int_max (pos 0) (negsuc n) = grind (arith, ints) in e

falling_small : (c : ℤ) → unsigned_abs c ≤ 64 → unsigned_abs (falling c) ≤ 64
falling_small (pos n) h = subst (λ x. unsigned_abs x ≤ 64) (sym (ap (λ b. cond b (pos n) (pos 0)) (not_below n))) (let e : 0 ≤ 64 = omega arith in e)
falling_small (negsuc n) h = h

rising_small : (c : ℤ) → unsigned_abs c ≤ 64 → unsigned_abs (rising c) ≤ 64
rising_small (pos n) h = subst (λ x. unsigned_abs x ≤ 64) (sym (ap (λ b. cond b (pos 0) (pos n)) (not_below n))) h
rising_small (negsuc n) h = let e : 0 ≤ 64 = omega arith in e

-- sizes of sums and differences
less_size : (a b : ℤ) → unsigned_abs (a -ℤ b) ≤ unsigned_abs a + unsigned_abs b
less_size a b = grind (arith, ints)

neg_size : (a : ℤ) → unsigned_abs (neg_ℤ a) ≤ unsigned_abs a
neg_size a = grind (arith, ints)

up_to : (n k m : ℕ) → n ≤ k → k ≤ m → n ≤ m
up_to n k m h l = omega (arith, h, l)

small_64 : (n : ℕ) → n ≤ 64 → n ≤ 2 ^ 21
small_64 n h = up_to n 64 (2 ^ 21) h (omega arith)

small_20 : (n : ℕ) → n ≤ 2 ^ 20 → n ≤ 2 ^ 21
small_20 n h = up_to n (2 ^ 20) (2 ^ 21) h (omega arith)

two_of : (s a b : ℕ) → s ≤ a + b → a ≤ 64 → b ≤ 64 → s ≤ 2 ^ 21
two_of s a b p q r = up_to s 128 (2 ^ 21) (omega (arith, p, q, r)) (omega arith)

with_64 : (s a b : ℕ) → s ≤ a + b → a ≤ 2 ^ 20 → b ≤ 64 → s ≤ 2 ^ 21
with_64 s a b p q r = up_to s (2 ^ 20 + 64) (2 ^ 21) (omega (arith, p, q, r)) (omega arith)

no_size : 0 ≤ 2 ^ 21
no_size = omega arith

one_size : 1 ≤ 2 ^ 21
one_size = omega arith

pub value_small : (f : Form) → IsSmallForm f → IsSmall (value_sum (kept f))
value_small f h = record { row = small_64 _ h.c; rows = no_size; cols = no_size; column = one_size; constant = small_20 _ h.s0 }

pub low_small : (f : Form) → IsSmallForm f → IsSmall (low_sum (kept f))
low_small f h = record {
  row = no_size;
  rows = small_64 _ (falling_small f.c h.c);
  cols = no_size;
  column = no_size;
  constant = with_64 _ _ _ (less_size f.s0 (falling f.c)) h.s0 (falling_small f.c h.c);
}

pub high_small : (f : Form) → IsSmallForm f → IsSmall (high_sum (kept f))
high_small f h = record {
  row = no_size;
  rows = small_64 _ (rising_small f.c h.c);
  cols = one_size;
  column = no_size;
  constant = three_of _ _ _ _ (less_size (f.s0 -ℤ pos 1) (rising f.c)) (less_size f.s0 (pos 1)) h.s0 (rising_small f.c h.c);
}
  where
    three_of : (s t a b : ℕ) → s ≤ t + b → t ≤ a + 1 → a ≤ 2 ^ 20 → b ≤ 64 → s ≤ 2 ^ 21
    three_of s t a b p q r u = up_to s (2 ^ 20 + 65) (2 ^ 21) (omega (arith, p, q, r, u)) (omega arith)

pub offset_small : (f : Form) → IsSmallForm f → IsSmall (offset_sum (kept f))
offset_small f h = record {
  row = small_64 _ h.c;
  rows = small_64 _ (up_to _ _ 64 (neg_size (falling f.c)) (falling_small f.c h.c));
  cols = no_size;
  column = one_size;
  constant = small_64 _ (falling_small f.c h.c);
}

pub width_small : (f : Form) → IsSmallForm f → IsSmall (width_sum (kept f))
width_small f h = record {
  row = no_size;
  rows = two_of _ _ _ (less_size (rising f.c) (falling f.c)) (rising_small f.c h.c) (falling_small f.c h.c);
  cols = one_size;
  column = no_size;
  constant = two_of _ _ _ (less_size (falling f.c) (rising f.c)) (falling_small f.c h.c) (rising_small f.c h.c);
}

-- the values of the sums, in n = m + 1 rows and k columns
zero_of : (u : ℕ) → pos 0 *ℤ pos u ≡ pos 0
zero_of u = zero-*ℤ (pos u)

one_of : (u : ℕ) → pos 1 *ℤ pos u ≡ pos u
one_of u = ap pos (one-mul u)

times_one : (z : ℤ) → z *ℤ pos 1 ≡ z
times_one (pos n) = ap pos (mul-one n)
times_one (negsuc n) = ap (λ k. neg_ℤ (pos k)) (mul-one (suc n))

last_row : (z : ℤ) (m : ℕ) → z *ℤ pos (suc m) ≡ (z *ℤ pos m) +ℤ z
last_row z m = ap (λ x. z *ℤ x) (let e : pos (suc m) ≡ pos m +ℤ pos 1 = grind (arith, ints) in e) ∙ times_sum z (pos m) (pos 1) ∙ ap (λ x. (z *ℤ pos m) +ℤ x) (times_one z)

-- the same by one row less, of any number of rows
any_row : (z y : ℤ) → z *ℤ y ≡ (z *ℤ (y -ℤ pos 1)) +ℤ z
any_row z y = ap (λ x. z *ℤ x) (let e : y ≡ (y -ℤ pos 1) +ℤ pos 1 = omega (arith, ints) in e) ∙ times_sum z (y -ℤ pos 1) (pos 1) ∙ ap (λ x. (z *ℤ (y -ℤ pos 1)) +ℤ x) (times_one z)

value_line : (A b c J s0 : ℤ) (j : ℕ) → b ≡ pos 0 → c ≡ pos 0 → J ≡ pos j → (((pos 0 +ℤ A) +ℤ (b +ℤ c)) +ℤ J) +ℤ s0 ≡ (pos j +ℤ A) +ℤ s0
value_line A b c J s0 j p q r = omega (arith, ints, p, q, r)

pub value_is : (f : Form) (r n k j : ℕ) → sum_value (value_sum (kept f)) r n k j ≡ (pos j +ℤ (f.c *ℤ pos r)) +ℤ f.s0
value_is f r n k j = value_line (f.c *ℤ pos r) (pos 0 *ℤ pos n) (pos 0 *ℤ pos k) (pos 1 *ℤ pos j) f.s0 j (zero_of n) (zero_of k) (one_of j)

low_line : (a b c F X Y s0 : ℤ) → a ≡ pos 0 → b ≡ pos 0 → c ≡ pos 0 → X ≡ Y +ℤ F → (((pos 0 +ℤ a) +ℤ (X +ℤ b)) +ℤ c) +ℤ (s0 -ℤ F) ≡ s0 +ℤ Y
low_line a b c F X Y s0 p q r h = omega (arith, ints, p, q, r, h)

pub low_is : (f : Form) (r m k j : ℕ) → sum_value (low_sum (kept f)) r (suc m) k j ≡ f.s0 +ℤ (falling f.c *ℤ pos m)
low_is f r m k j = low_line (pos 0 *ℤ pos r) (pos 0 *ℤ pos k) (pos 0 *ℤ pos j) (falling f.c) (falling f.c *ℤ pos (suc m)) (falling f.c *ℤ pos m) f.s0 (zero_of r) (zero_of k) (zero_of j) (last_row (falling f.c) m)

-- of any number of rows
pub low_any : (f : Form) (n k : ℕ) → sum_value (low_sum (kept f)) 0 n k 0 ≡ f.s0 +ℤ (falling f.c *ℤ (pos n -ℤ pos 1))
low_any f n k = low_line (pos 0 *ℤ pos 0) (pos 0 *ℤ pos k) (pos 0 *ℤ pos 0) (falling f.c) (falling f.c *ℤ pos n) (falling f.c *ℤ (pos n -ℤ pos 1)) f.s0 (zero_of 0) (zero_of k) (zero_of 0) (any_row (falling f.c) (pos n))

high_line : (a c R X Y K s0 : ℤ) (k : ℕ) → a ≡ pos 0 → c ≡ pos 0 → K ≡ pos k → X ≡ Y +ℤ R → (((pos 0 +ℤ a) +ℤ (X +ℤ K)) +ℤ c) +ℤ ((s0 -ℤ pos 1) -ℤ R) ≡ ((pos k -ℤ pos 1) +ℤ s0) +ℤ Y
high_line a c R X Y K s0 k p q r h = omega (arith, ints, p, q, r, h)

pub high_is : (f : Form) (r m k j : ℕ) → sum_value (high_sum (kept f)) r (suc m) k j ≡ ((pos k -ℤ pos 1) +ℤ f.s0) +ℤ (rising f.c *ℤ pos m)
high_is f r m k j = high_line (pos 0 *ℤ pos r) (pos 0 *ℤ pos j) (rising f.c) (rising f.c *ℤ pos (suc m)) (rising f.c *ℤ pos m) (pos 1 *ℤ pos k) f.s0 k (zero_of r) (zero_of j) (one_of k) (last_row (rising f.c) m)

pub high_any : (f : Form) (n k : ℕ) → sum_value (high_sum (kept f)) 0 n k 0 ≡ ((pos k -ℤ pos 1) +ℤ f.s0) +ℤ (rising f.c *ℤ (pos n -ℤ pos 1))
high_any f n k = high_line (pos 0 *ℤ pos 0) (pos 0 *ℤ pos 0) (rising f.c) (rising f.c *ℤ pos n) (rising f.c *ℤ (pos n -ℤ pos 1)) (pos 1 *ℤ pos k) f.s0 k (zero_of 0) (zero_of 0) (one_of k) (any_row (rising f.c) (pos n))

offset_line : (A N b J F X Y s0 : ℤ) (j : ℕ) → N ≡ neg_ℤ X → b ≡ pos 0 → J ≡ pos j → X ≡ Y +ℤ F → (((pos 0 +ℤ A) +ℤ (N +ℤ b)) +ℤ J) +ℤ F ≡ ((pos j +ℤ A) +ℤ s0) -ℤ (s0 +ℤ Y)
offset_line A N b J F X Y s0 j p q r h = omega (arith, ints, p, q, r, h)

pub offset_is : (f : Form) (r m k j : ℕ) → sum_value (offset_sum (kept f)) r (suc m) k j ≡ ((pos j +ℤ (f.c *ℤ pos r)) +ℤ f.s0) -ℤ (f.s0 +ℤ (falling f.c *ℤ pos m))
offset_is f r m k j =
    offset_line (f.c *ℤ pos r) (neg_ℤ (falling f.c) *ℤ pos (suc m)) (pos 0 *ℤ pos k) (pos 1 *ℤ pos j) (falling f.c) (falling f.c *ℤ pos (suc m)) (falling f.c *ℤ pos m) f.s0 j
    (neg_times (falling f.c) (pos (suc m))) (zero_of k) (one_of j) (last_row (falling f.c) m)

width_line : (a c W K R F X Y U V s0 : ℤ) (k : ℕ) → a ≡ pos 0 → c ≡ pos 0 → K ≡ pos k → W ≡ X -ℤ Y → X ≡ U +ℤ R → Y ≡ V +ℤ F
    → (((pos 0 +ℤ a) +ℤ (W +ℤ K)) +ℤ c) +ℤ (F -ℤ R) ≡ ((((pos k -ℤ pos 1) +ℤ s0) +ℤ U) -ℤ (s0 +ℤ V)) +ℤ pos 1
width_line a c W K R F X Y U V s0 k p q r h i l = omega (arith, ints, p, q, r, h, i, l)

pub width_is : (f : Form) (r m k j : ℕ) → sum_value (width_sum (kept f)) r (suc m) k j ≡ ((((pos k -ℤ pos 1) +ℤ f.s0) +ℤ (rising f.c *ℤ pos m)) -ℤ (f.s0 +ℤ (falling f.c *ℤ pos m))) +ℤ pos 1
width_is f r m k j =
    width_line (pos 0 *ℤ pos r) (pos 0 *ℤ pos j) ((rising f.c -ℤ falling f.c) *ℤ pos (suc m)) (pos 1 *ℤ pos k) (rising f.c) (falling f.c) (rising f.c *ℤ pos (suc m)) (falling f.c *ℤ pos (suc m)) (rising f.c *ℤ pos m) (falling f.c *ℤ pos m) f.s0 k
    (zero_of r) (zero_of j) (one_of k)
    (sum_times (rising f.c) (neg_ℤ (falling f.c)) (pos (suc m)) ∙ ap (λ x. (rising f.c *ℤ pos (suc m)) +ℤ x) (neg_times (falling f.c) (pos (suc m))))
    (last_row (rising f.c) m) (last_row (falling f.c) m)

pub width_any : (f : Form) (n k : ℕ) → sum_value (width_sum (kept f)) 0 n k 0 ≡ ((((pos k -ℤ pos 1) +ℤ f.s0) +ℤ (rising f.c *ℤ (pos n -ℤ pos 1))) -ℤ (f.s0 +ℤ (falling f.c *ℤ (pos n -ℤ pos 1)))) +ℤ pos 1
width_any f n k =
    width_line (pos 0 *ℤ pos 0) (pos 0 *ℤ pos 0) ((rising f.c -ℤ falling f.c) *ℤ pos n) (pos 1 *ℤ pos k) (rising f.c) (falling f.c) (rising f.c *ℤ pos n) (falling f.c *ℤ pos n) (rising f.c *ℤ (pos n -ℤ pos 1)) (falling f.c *ℤ (pos n -ℤ pos 1)) f.s0 k
    (zero_of 0) (zero_of 0) (one_of k)
    (sum_times (rising f.c) (neg_ℤ (falling f.c)) (pos n) ∙ ap (λ x. (rising f.c *ℤ pos n) +ℤ x) (neg_times (falling f.c) (pos n)))
    (any_row (rising f.c) (pos n)) (any_row (falling f.c) (pos n))

-- a quotient by 1
pub by_one : (x : ℤ) → int_div_euclid x (pos 1) ≡ x
by_one (pos a) = ap pos (div-one a)
by_one (negsuc a) = ap negsuc (div-one a)
