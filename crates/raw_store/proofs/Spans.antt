-- The lengths of blocks, which are powers of 2.
use Rattle.std.proofs.Common.{◌≡◌, ℕ, zero, suc, ◌+◌, ◌-◌, ◌*◌, ◌<◌, ◌≤◌, ◌^◌, ◌⊎◌, inl, inr, ap, ◌∙◌, arith, lit<}
use Rattle.std.proofs.Math.Nat.{two-pow-succ, pow-le-pow_right}
use Rattle.raw_store.specs.Directory.{span}

pub below_or_not : (a b : ℕ) → (a < b) ⊎ (b ≤ a)
below_or_not zero zero = inr (omega arith)
below_or_not zero (suc b) = inl (omega arith)
below_or_not (suc a) zero = inr (omega arith)
below_or_not (suc a) (suc b) = elim (below_or_not a b) [ inl h ↦ inl (omega arith) | inr h ↦ inr (omega arith) ]

pow_up : (j k : ℕ) → j ≤ k → 2 ^ j ≤ 2 ^ k
pow_up j k le = pow-le-pow_right {n = 2} (lit< tt) {i = j} {j = k} le

pub span-suc : (k : ℕ) → span (suc k) ≡ span k + span k
span-suc k = let e : suc k + 5 ≡ suc (k + 5) = omega arith in ap (λ n. 2 ^ n) e ∙ two-pow-succ (k + 5)

pub span_up : (j k : ℕ) → j ≤ k → span j ≤ span k
span_up j k le = pow_up (j + 5) (k + 5) (omega arith)

pub span_least : (k : ℕ) → 32 ≤ span k
span_least k = pow_up 5 (k + 5) (omega arith)

-- the longer block comes later
pub span_later : (j k : ℕ) → span j < span k → j < k
span_later j k lt = elim (below_or_not j k) [ inl h ↦ h | inr h ↦ (let up = span_up k j h in absurd (omega arith)) ]

-- the power of 2 that begins a number's range, which is 32 to below 2 ^ 60
module _ (x r : ℕ) (low : 2 ^ r ≤ x) (high : x < 2 * 2 ^ r) (least : 32 ≤ x) (most : x < 2 ^ 60) where
  pub top_least : 5 ≤ r
  top_least = elim (below_or_not r 5) [
    | inl h ↦ (let up = pow_up (suc r) 5 (omega arith) in let twice = two-pow-succ r in absurd (omega arith))
    | inr h ↦ h
  ]

  pub top_most : r < 60
  top_most = elim (below_or_not r 60) [ inl h ↦ h | inr h ↦ (let up = pow_up 60 r h in absurd (omega arith)) ]

  pub span_top : span (r - 5) ≡ 2 ^ r
  span_top = let five = top_least in let e : r - 5 + 5 ≡ r = omega arith in ap (λ n. 2 ^ n) e
