-- Statements in order, and counted anew, keep their shapes.
use Rattle.std.proofs.Common.{◌≡◌, ℕ, suc, arith, ◌<◌, ◌-◌, nat_eq, List, [], ◌∷◌, ◌++◌, length, take, refl, ap, ◌∙◌, eq-eqb}
use Rattle.std.specs.Prelude.{replicate, slice_index_or}
use Rattle.std.specs.List.{AllByRecursion}
use Rattle.std.proofs.lemmas.Bool.{cond_both}
use Rattle.std.proofs.lemmas.List.{length-replicate}
use Rattle.c_tree.specs.declared.program.Program.{Program}
use Rattle.nest_tree.specs.declared.kernel.Nest.{Nest}
use Rattle.nest_core.specs.Order.{HasPositions, is_earlier, placed, placed_each, in_text_order, next_positions, at_positions, numbered_after, numbered}
use Rattle.nest_tree.specs.Carriers.{shared}
use Rattle.nest_core.specs.Shapes.{IsShapedNest}
use Rattle.nest_core.proofs.Sharing.{shared-not, shared-first_below, shared-second_below}
use Rattle.nest_core.proofs.Counting.{length-next_positions}

module _ (P : Nest → Type 0) where
  placed-all : (n : Nest) (ms : List Nest) → P n → AllByRecursion P ms → AllByRecursion P (placed n ms)
  placed-all n [] p q = (p, tt)
  placed-all n (m ∷ ms) p q =
      cond_both (is_earlier m.positions n.positions) (m ∷ placed n ms) (n ∷ m ∷ ms) (AllByRecursion P)
      (λ _. (q.0, placed-all n ms p q.1)) (λ _. (p, q))

  placed_each-all : (ns ms : List Nest) → AllByRecursion P ns → AllByRecursion P ms → AllByRecursion P (placed_each ns ms)
  placed_each-all [] ms p q = q
  placed_each-all (n ∷ ns) ms p q = placed-all n (placed_each ns ms) p.0 (placed_each-all ns ms p.1 q)

  pub in_text_order-all : (ns : List Nest) → AllByRecursion P ns → AllByRecursion P (in_text_order ns)
  unfolding in_text_order
  in_text_order-all ns p = placed_each-all ns [] p tt

length-placed : (n : Nest) (ms : List Nest) → length (placed n ms) ≡ suc (length ms)
length-placed n [] = refl
length-placed n (m ∷ ms) =
    cond_both (is_earlier m.positions n.positions) (m ∷ placed n ms) (n ∷ m ∷ ms) (λ (xs : List Nest). length xs ≡ suc (suc (length ms)))
    (λ _. ap suc (length-placed n ms)) (λ _. refl)

length-placed_each : (ns : List Nest) → length (placed_each ns []) ≡ length ns
length-placed_each [] = refl
length-placed_each (n ∷ ns) = length-placed n (placed_each ns []) ∙ ap suc (length-placed_each ns)

pub length-in_text_order : (ns : List Nest) → length (in_text_order ns) ≡ length ns
unfolding in_text_order
length-in_text_order ns = length-placed_each ns

length-numbered_after : (old new : List ℕ) (ns : List Nest) → length (numbered_after old new ns) ≡ length ns
length-numbered_after old new [] = refl
length-numbered_after old new (n ∷ ns) = ap suc (length-numbered_after n.positions (next_positions (shared old n.positions) new (length n.positions)) ns)

pub length-numbered : (ns : List Nest) → length (numbered ns) ≡ length ns
unfolding numbered
length-numbered [] = refl
length-numbered (n ∷ ns) = ap suc (length-numbered_after n.positions (replicate (length n.positions) 0) ns)

module _ (head : Program) where
  pub has_positions : (ns : List Nest) → AllByRecursion (IsShapedNest head) ns → AllByRecursion HasPositions ns
  has_positions [] s = tt
  has_positions (n ∷ ns) s = (omega (arith, s.0.positions), has_positions ns s.1)

  at_positions-shaped : (n : Nest) (ps : List ℕ) → length ps ≡ length n.positions → IsShapedNest head n → IsShapedNest head (at_positions n ps)
  at_positions-shaped n ps e s = record {
    positions = e ∙ s.positions;
    depth = s.depth;
    rows = s.rows;
    terms = s.terms;
    target = s.target;
    value = s.value;
    whole = s.whole;
  }

  numbered_after-shaped : (old new : List ℕ) (ns : List Nest) → 0 < length old → length new ≡ length old → AllByRecursion (IsShapedNest head) ns → AllByRecursion (IsShapedNest head) (numbered_after old new ns)
  numbered_after-shaped old new [] h e s = tt
  numbered_after-shaped old new (n ∷ ns) h e s =
      let some : 0 < length n.positions = omega (arith, s.0.positions) in
      let low : shared old n.positions < length new = rw e (shared-first_below old n.positions h) in
      let long = length-next_positions (shared old n.positions) (length n.positions) new low (shared-second_below old n.positions some) in (
        at_positions-shaped n (next_positions (shared old n.positions) new (length n.positions)) long s.0,
        numbered_after-shaped n.positions (next_positions (shared old n.positions) new (length n.positions)) ns some long s.1,
      )

  pub numbered-shaped : (ns : List Nest) → AllByRecursion (IsShapedNest head) ns → AllByRecursion (IsShapedNest head) (numbered ns)
  unfolding numbered
  numbered-shaped [] s = tt
  numbered-shaped (n ∷ ns) s =
      let some : 0 < length n.positions = omega (arith, s.0.positions) in (
        at_positions-shaped n (replicate (length n.positions) 0) (length-replicate (length n.positions) 0) s.0,
        numbered_after-shaped n.positions (replicate (length n.positions) 0) ns some (length-replicate (length n.positions) 0) s.1,
      )

-- ---- what is counted anew is counted already
next-zero : (q : ℕ) (qs : List ℕ) (n : ℕ) → next_positions 0 (q ∷ qs) n ≡ suc q ∷ replicate (n - 1) 0
unfolding next_positions
next-zero q qs n = refl

next-suc : (s q : ℕ) (qs : List ℕ) (n : ℕ) → next_positions (suc s) (q ∷ qs) (suc n) ≡ q ∷ next_positions s qs n
unfolding next_positions
next-suc s q qs n =
    let fewer : suc n - suc (suc s) ≡ n - suc s = omega arith in
    ap (λ (k : ℕ). q ∷ (take s qs ++ suc (slice_index_or qs s 0) ∷ replicate k 0)) fewer

shared-cons : (q q' : ℕ) (qs w : List ℕ) → 0 < length w → shared (q ∷ q' ∷ qs) (q ∷ w) ≡ suc (shared (q' ∷ qs) w)
shared-cons q q' qs [] h = absurd (omega (arith, h))
shared-cons q q' qs (x ∷ w) h = rw (eq-eqb q q refl) refl

-- as many loops are shared with the new positions
shared-next : (old new at : List ℕ) → length new ≡ length old → 0 < length old → 0 < length at → shared new (next_positions (shared old at) new (length at)) ≡ shared old at
shared-next [] new at e h k = absurd (omega (arith, h))
shared-next (p ∷ ps) [] at e h k = absurd (omega (arith, e))
shared-next (p ∷ ps) (q ∷ qs) [] e h k = absurd (omega (arith, k))
shared-next (p ∷ []) (q ∷ []) (x ∷ xs) e h k = refl
shared-next (p ∷ []) (q ∷ q' ∷ qs) (x ∷ xs) e h k = absurd (omega (arith, e))
shared-next (p ∷ p' ∷ ps) (q ∷ []) (x ∷ xs) e h k = absurd (omega (arith, e))
shared-next (p ∷ p' ∷ ps) (q ∷ q' ∷ qs) (x ∷ []) e h k = ap (shared (q ∷ q' ∷ qs)) (next-zero q (q' ∷ qs) 1) ∙ shared-not 0 (q ∷ q' ∷ qs) (suc q ∷ replicate (1 - 1) 0) (λ d. omega (arith, d))
shared-next (p ∷ p' ∷ ps) (q ∷ q' ∷ qs) (x ∷ x' ∷ xs) e h k =
    let s : ℕ = shared (p' ∷ ps) (x' ∷ xs) in
    let again = shared-next (p' ∷ ps) (q' ∷ qs) (x' ∷ xs) (omega (arith, e)) (omega arith) (omega arith) in
    let low : s < length (q' ∷ qs) = omega (arith, e, shared-first_below (p' ∷ ps) (x' ∷ xs) (omega arith)) in
    let high : s < suc (length xs) = shared-second_below (p' ∷ ps) (x' ∷ xs) (omega arith) in
    let some : 0 < length (next_positions s (q' ∷ qs) (suc (length xs))) = rw (length-next_positions s (suc (length xs)) (q' ∷ qs) low high) (omega arith) in
    cond_both (nat_eq p x) (suc s) 0 (λ c. shared (q ∷ q' ∷ qs) (next_positions c (q ∷ q' ∷ qs) (suc (suc (length xs)))) ≡ c)
    (λ _. ap (shared (q ∷ q' ∷ qs)) (next-suc s q (q' ∷ qs) (suc (length xs))) ∙ shared-cons q q' qs (next_positions s (q' ∷ qs) (suc (length xs))) some ∙ ap suc again)
    (λ _. ap (shared (q ∷ q' ∷ qs)) (next-zero q (q' ∷ qs) (suc (suc (length xs)))) ∙ shared-not 0 (q ∷ q' ∷ qs) (suc q ∷ replicate (suc (suc (length xs)) - 1) 0) (λ d. omega (arith, d)))

counted_after : (old new : List ℕ) (ns : List Nest) → length new ≡ length old → 0 < length old → AllByRecursion HasPositions ns → numbered_after new new (numbered_after old new ns) ≡ numbered_after old new ns
counted_after old new [] e h p = refl
counted_after old new (n ∷ ns) e h p =
    let ps : List ℕ = next_positions (shared old n.positions) new (length n.positions) in
    let low : shared old n.positions < length new = rw e (shared-first_below old n.positions h) in
    let long : length ps ≡ length n.positions = length-next_positions (shared old n.positions) (length n.positions) new low (shared-second_below old n.positions p.0) in
    let same : next_positions (shared new ps) new (length ps) ≡ ps = ap (λ k. next_positions k new (length ps)) (shared-next old new n.positions e h p.0) ∙ ap (next_positions (shared old n.positions) new) long in
    let more = counted_after n.positions ps ns long p.0 p.1 in
    ap (λ (qs : List ℕ). at_positions n qs ∷ numbered_after ps qs (numbered_after n.positions ps ns)) same ∙ ap (λ (ms : List Nest). at_positions n ps ∷ ms) more

pub numbered-again : (ns : List Nest) → AllByRecursion HasPositions ns → numbered (numbered ns) ≡ numbered ns
unfolding numbered
numbered-again [] p = refl
numbered-again (n ∷ ns) p =
    let zs : List ℕ = replicate (length n.positions) 0 in
    let long : length zs ≡ length n.positions = length-replicate (length n.positions) 0 in
    let more = counted_after n.positions zs ns long p.0 p.1 in
    ap (λ (k : ℕ). at_positions n (replicate k 0) ∷ numbered_after zs (replicate k 0) (numbered_after n.positions zs ns)) long ∙ ap (λ (ms : List Nest). at_positions n zs ∷ ms) more
