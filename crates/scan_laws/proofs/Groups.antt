-- Least and greatest numbers of lists.
use Rattle.std.proofs.Common.{◌≡◌, inl, inr, List, [], ◌∷◌, refl, sym, subst, arith, ℤ, ◌≤ℤ◌, ◌<ℤ◌}
use Rattle.std.proofs.lemmas.Int.{ints, clamps}
use Rattle.nest_tree.specs.Lists.{IsIn}
use Rattle.scan_laws.specs.Bounds.{greatest, least}
use Rattle.scan_laws.specs.Laws.{AreAtMost, AreAbove}

not_empty : (m : ℤ) (ns : List ℤ) → m ∷ ns ≡ [] → ⊥
not_empty m ns e = cc

pub greatest-at_most : (ns : List ℤ) (v : ℤ) → (ns ≡ [] → ⊥) → AreAtMost ns v → greatest ns ≤ℤ v
greatest-at_most [] v n h = absurd (n refl)
greatest-at_most (n ∷ []) v some h = h n (inl refl)
greatest-at_most (n ∷ m ∷ ns) v some h =
    let a = h n (inl refl) in
    let b = greatest-at_most (m ∷ ns) v (not_empty m ns) (λ k x. h k (inr x)) in
    omega (arith, ints, clamps)

pub at_most-greatest : (ns : List ℤ) (v : ℤ) → greatest ns ≤ℤ v → AreAtMost ns v
at_most-greatest [] v h k a = absurd a
at_most-greatest (n ∷ []) v h k (inl e) = subst (λ (z : ℤ). z ≤ℤ v) (sym e) h
at_most-greatest (n ∷ []) v h k (inr a) = absurd a
at_most-greatest (n ∷ m ∷ ns) v h k (inl e) = let b : n ≤ℤ v = omega (arith, ints, clamps) in subst (λ (z : ℤ). z ≤ℤ v) (sym e) b
at_most-greatest (n ∷ m ∷ ns) v h k (inr a) = at_most-greatest (m ∷ ns) v (omega (arith, ints, clamps)) k a

pub least-above : (ns : List ℤ) (v : ℤ) → (ns ≡ [] → ⊥) → AreAbove ns v → v <ℤ least ns
least-above [] v n h = absurd (n refl)
least-above (n ∷ []) v some h = h n (inl refl)
least-above (n ∷ m ∷ ns) v some h =
    let a = h n (inl refl) in
    let b = least-above (m ∷ ns) v (not_empty m ns) (λ k x. h k (inr x)) in
    omega (arith, ints, clamps)

pub above-least : (ns : List ℤ) (v : ℤ) → v <ℤ least ns → AreAbove ns v
above-least [] v h k a = absurd a
above-least (n ∷ []) v h k (inl e) = subst (λ (z : ℤ). v <ℤ z) (sym e) h
above-least (n ∷ []) v h k (inr a) = absurd a
above-least (n ∷ m ∷ ns) v h k (inl e) = let b : v <ℤ n = omega (arith, ints, clamps) in subst (λ (z : ℤ). v <ℤ z) (sym e) b
above-least (n ∷ m ∷ ns) v h k (inr a) = above-least (m ∷ ns) v (omega (arith, ints, clamps)) k a

-- the least is at most what some number is at most, and the greatest above what some number is above
pub least-in : (ns : List ℤ) (n v : ℤ) → IsIn n ns → n ≤ℤ v → least ns ≤ℤ v
least-in [] n v a h = absurd a
least-in (m ∷ []) n v (inl e) h = subst (λ (z : ℤ). z ≤ℤ v) e h
least-in (m ∷ []) n v (inr a) h = absurd a
least-in (m ∷ k ∷ ns) n v (inl e) h = let b : m ≤ℤ v = subst (λ (z : ℤ). z ≤ℤ v) e h in omega (arith, ints, clamps)
least-in (m ∷ k ∷ ns) n v (inr a) h = let b = least-in (k ∷ ns) n v a h in omega (arith, ints, clamps)

pub greatest-in : (ns : List ℤ) (n v : ℤ) → IsIn n ns → v <ℤ n → v <ℤ greatest ns
greatest-in [] n v a h = absurd a
greatest-in (m ∷ []) n v (inl e) h = subst (λ (z : ℤ). v <ℤ z) e h
greatest-in (m ∷ []) n v (inr a) h = absurd a
greatest-in (m ∷ k ∷ ns) n v (inl e) h = let b : v <ℤ m = subst (λ (z : ℤ). v <ℤ z) e h in omega (arith, ints, clamps)
greatest-in (m ∷ k ∷ ns) n v (inr a) h = let b = greatest-in (k ∷ ns) n v a h in omega (arith, ints, clamps)
