-- Laws of products of integers: distribution, association, signs.
use Rattle.std.proofs.Common.{◌≡◌, ℕ, ◌*◌, ℤ, pos, ◌+ℤ◌, ◌*ℤ◌, neg_ℤ, ◌≤ℤ◌, ◌<ℤ◌, negsuc, zero, suc, arith, ap, ◌∙◌, sym}
use Rattle.std.proofs.lemmas.Int.{ints}
use borrow.Author.Differences.{up, down, sum_is_lem, product_is, neg_is}
use lib.IntN.{*ℤ_comm, zero-*ℤ, *ℤ-zero}

-- a product by a sum
pub sum_times : (a b c : ℤ) → (a +ℤ b) *ℤ c ≡ a *ℤ c +ℤ b *ℤ c
sum_times a b c = omega (arith, ints, ap (λ (k : ℕ). k * up c) (sum_is_lem a b), ap (λ (k : ℕ). k * down c) (sum_is_lem a b))

pub times_sum : (c a b : ℤ) → c *ℤ (a +ℤ b) ≡ c *ℤ a +ℤ c *ℤ b
times_sum c a b = *ℤ_comm c (a +ℤ b) ∙ sum_times a b c ∙ (λ i. *ℤ_comm a c i +ℤ *ℤ_comm b c i)

pub times_assoc : (a b c : ℤ) → (a *ℤ b) *ℤ c ≡ a *ℤ (b *ℤ c)
times_assoc a b c =
    omega (
      arith,
      ints,
      ap (λ (k : ℕ). k * up c) (product_is a b).0,
      ap (λ (k : ℕ). k * down c) (product_is a b).0,
      ap (λ (k : ℕ). k * up c) (product_is a b).1,
      ap (λ (k : ℕ). k * down c) (product_is a b).1,
      ap (λ (k : ℕ). up a * k) (product_is b c).0,
      ap (λ (k : ℕ). down a * k) (product_is b c).0,
      ap (λ (k : ℕ). up a * k) (product_is b c).1,
      ap (λ (k : ℕ). down a * k) (product_is b c).1,
    )

pub neg_times : (a b : ℤ) → neg_ℤ a *ℤ b ≡ neg_ℤ (a *ℤ b)
neg_times a b =
    omega (
      arith,
      ints,
      ap (λ (k : ℕ). k * up b) (neg_is a).0,
      ap (λ (k : ℕ). k * down b) (neg_is a).0,
      ap (λ (k : ℕ). k * up b) (neg_is a).1,
      ap (λ (k : ℕ). k * down b) (neg_is a).1,
    )

pub times_neg : (a b : ℤ) → a *ℤ neg_ℤ b ≡ neg_ℤ (a *ℤ b)
times_neg a b = *ℤ_comm a (neg_ℤ b) ∙ neg_times b a ∙ ap neg_ℤ (*ℤ_comm b a)

pub ruleset expand = (sum_times, times_sum, times_assoc, neg_times, times_neg, zero-*ℤ, *ℤ-zero)

-- the first two factors of three change places
pub times_swap : (a b c : ℤ) → a *ℤ (b *ℤ c) ≡ b *ℤ (a *ℤ c)
times_swap a b c = sym (times_assoc a b c) ∙ ap (λ (k : ℤ). k *ℤ c) (*ℤ_comm a b) ∙ times_assoc b a c

-- ---- signs
pub not_negative_product : (a b : ℤ) → pos 0 ≤ℤ a → pos 0 ≤ℤ b → pos 0 ≤ℤ (a *ℤ b)
not_negative_product (pos a) (pos b) p q = omega (arith, ints)
not_negative_product (pos a) (negsuc b) p q = absurd (omega (arith, ints))
not_negative_product (negsuc a) b p q = absurd (omega (arith, ints))

pub not_negative_from_product : (g v : ℤ) → pos 0 <ℤ g → pos 0 ≤ℤ (v *ℤ g) → pos 0 ≤ℤ v
not_negative_from_product (pos zero) v p q = absurd (omega (arith, ints))
not_negative_from_product (negsuc g) v p q = absurd (omega (arith, ints))
not_negative_from_product (pos (suc g)) (pos v) p q = omega (arith, ints)
not_negative_from_product (pos (suc g)) (negsuc v) p q = absurd (omega (arith, ints))

pub zero_from_product : (g v : ℤ) → pos 0 <ℤ g → v *ℤ g ≡ pos 0 → v ≡ pos 0
zero_from_product g v p e =
    let low : pos 0 ≤ℤ v = not_negative_from_product g v p (rw e (omega (arith, ints))) in
    let high : pos 0 ≤ℤ neg_ℤ v = not_negative_from_product g (neg_ℤ v) p (rw (neg_times v g, e) (omega (arith, ints))) in
    omega (arith, ints)

pub divided_step : (q g a D : ℤ) → (q *ℤ a +ℤ D) *ℤ g ≡ (q *ℤ g) *ℤ a +ℤ D *ℤ g
divided_step q g a D = simp expand (omega (arith, ints, ap (λ (k : ℤ). q *ℤ k) (*ℤ_comm a g)))
