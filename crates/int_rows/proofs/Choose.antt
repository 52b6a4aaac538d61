-- Between lower bounds and upper bounds that agree pair by pair there is a rational number t / k.
use Rattle.std.proofs.Common.{ℤ, pos, negsuc, ◌+ℤ◌, ◌*ℤ◌, neg_ℤ, ◌≤ℤ◌, ◌<ℤ◌, List, [], ◌∷◌, arith, ap}
use Rattle.std.specs.Prelude.{unsigned_abs}
use Rattle.std.specs.List.{AllByRecursion}
use Rattle.std.proofs.lemmas.Int.{ints, by_lt_z}
use lib.IntN.{*ℤ_comm}
use Rattle.chill_base.proofs.Ring.{expand, times_swap, not_negative_product, not_negative_from_product}
use Rattle.chill_base.proofs.Each.{each-weaker, each-both}

-- a bound `a * t + k * R >= 0` on t / k
abbrev pub Bounds : ℤ → ℤ → ℤ → ℤ → Type 0
Bounds k t a R = pos 0 ≤ℤ (a *ℤ t +ℤ k *ℤ R)

lower-down : (c t S : ℤ) → c <ℤ pos 0 → t ≤ℤ pos 0 → pos 0 ≤ℤ (c *ℤ (t +ℤ neg_ℤ (pos (unsigned_abs S))) +ℤ pos 1 *ℤ S)
lower-down c t S p q =
    let one = not_negative_product (neg_ℤ c) (neg_ℤ t) (omega (arith, ints)) (omega (arith, ints)) in
    let one' = simp expand at one in
    let two = simp expand at (not_negative_product (neg_ℤ c +ℤ negsuc 0) (pos (unsigned_abs S)) (omega (arith, ints)) (omega (arith, ints))) in
    simp expand (omega (arith, ints, one', two))

keep-down : (c t S B : ℤ) → c <ℤ pos 0 → pos 0 ≤ℤ B → pos 0 ≤ℤ (c *ℤ t +ℤ pos 1 *ℤ S) → pos 0 ≤ℤ (c *ℤ (t +ℤ neg_ℤ B) +ℤ pos 1 *ℤ S)
keep-down c t S B p q h =
    let two = simp expand at (not_negative_product (neg_ℤ c) B (omega (arith, ints)) q) in
    simp expand (omega (arith, ints, two))

turn-same : (a R : ℤ) → pos 0 ≤ℤ (a *ℤ neg_ℤ R +ℤ a *ℤ R)
turn-same a R = simp expand (omega (arith, ints))

turn-other : (a a2 t k R R2 : ℤ) → pos 0 <ℤ a → pos 0 <ℤ a2 → pos 0 <ℤ k → (a *ℤ t +ℤ k *ℤ R) <ℤ pos 0 → pos 0 ≤ℤ (a2 *ℤ t +ℤ k *ℤ R2) → pos 0 ≤ℤ (a2 *ℤ neg_ℤ R +ℤ a *ℤ R2)
turn-other a a2 t k R R2 pa pa2 pk low h =
    not_negative_from_product k _ pk
    (let one = simp expand at (not_negative_product a (a2 *ℤ t +ℤ k *ℤ R2) (omega (arith, ints)) h) in
    let two = simp expand at (not_negative_product a2 (neg_ℤ (a *ℤ t +ℤ k *ℤ R)) (omega (arith, ints)) (omega (arith, ints))) in
    simp expand (omega (arith, ints, one, two, times_swap a a2 t, ap (λ (z : ℤ). a2 *ℤ z) (*ℤ_comm R k), ap (λ (z : ℤ). a *ℤ z) (*ℤ_comm R2 k))))

turn-upper : (a c R S : ℤ) → pos 0 ≤ℤ (neg_ℤ c *ℤ R +ℤ a *ℤ S) → pos 0 ≤ℤ (c *ℤ neg_ℤ R +ℤ a *ℤ S)
turn-upper a c R S h = let k = simp expand at h in simp expand (omega (arith, ints, k))

module _ {X : Type 0} (a R : X → ℤ) where
  -- the row bounds t / k
  abbrev pub Bound : ℤ → ℤ → X → Type 0
  Bound k t r = Bounds k t (a r) (R r)

  -- upper bounds alone
  below_all : (highs : List X) → AllByRecursion (λ s. a s <ℤ pos 0) highs → (t : ℤ) × (t ≤ℤ pos 0) × AllByRecursion (Bound (pos 1) t) highs
  below_all [] h = (pos 0, omega (arith, ints), tt)
  below_all (s ∷ highs) h =
      let more = below_all highs h.1 in
      let B = pos (unsigned_abs (R s)) in (
        more.0 +ℤ neg_ℤ B,
        omega (arith, ints, more.1),
        (
          lower-down (a s) more.0 (R s) h.0 more.1,
          each-weaker (λ r. (a r <ℤ pos 0) × Bound (pos 1) more.0 r) (Bound (pos 1) (more.0 +ℤ neg_ℤ B))
              (λ r w. keep-down (a r) more.0 (R r) B w.0 (omega (arith, ints)) w.1) highs
              (each-both (λ r. a r <ℤ pos 0) (Bound (pos 1) more.0) highs h.1 more.2),
        ),
      )

  -- lower bounds, one after the other: one that does not hold yet becomes the number itself
  pub between_all : (lows highs : List X) → AllByRecursion (λ r. pos 0 <ℤ a r) lows → AllByRecursion (λ s. a s <ℤ pos 0) highs
      → AllByRecursion (λ r. AllByRecursion (λ s. pos 0 ≤ℤ (neg_ℤ (a s) *ℤ R r +ℤ a r *ℤ R s)) highs) lows
      → (k : ℤ) × (t : ℤ) × (pos 0 <ℤ k) × AllByRecursion (Bound k t) lows × AllByRecursion (Bound k t) highs
  between_all [] highs l h cross = let b = below_all highs h in (pos 1, b.0, omega (arith, ints), tt, b.2)
  between_all (r ∷ lows) highs l h cross =
      let more = between_all lows highs l.1 h cross.1 in
      by_lt_z (a r *ℤ more.1 +ℤ more.0 *ℤ R r) (pos 0)
      (λ low. (
        a r,
        neg_ℤ (R r),
        l.0,
        (
          turn-same (a r) (R r),
          each-weaker (λ q. (pos 0 <ℤ a q) × Bound more.0 more.1 q) (Bound (a r) (neg_ℤ (R r)))
              (λ q w. turn-other (a r) (a q) more.1 more.0 (R r) (R q) l.0 w.0 more.2 low w.1) lows
              (each-both (λ q. pos 0 <ℤ a q) (Bound more.0 more.1) lows l.1 more.3),
        ),
        each-weaker (λ s. pos 0 ≤ℤ (neg_ℤ (a s) *ℤ R r +ℤ a r *ℤ R s)) (Bound (a r) (neg_ℤ (R r))) (λ s w. turn-upper (a r) (a s) (R r) (R s) w) highs cross.0,
      ))
      (λ fits. (more.0, more.1, more.2, (fits, more.3), more.4))
