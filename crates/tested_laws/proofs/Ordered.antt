-- The statements of a shaped kernel stand in the order of the text, so their positions tell them apart.
use Rattle.std.proofs.Common.{◌≡◌, inl, inr, ℕ, zero, suc, ◌-◌, ◌<◌, Bool, true, false, cond, List, [], ◌∷◌, ◌++◌, length, take, refl, sym, ap, subst, arith, nat_eq, nat_lt, bytes_eq}
use Rattle.std.specs.Prelude.{replicate, slice_index_or}
use Rattle.std.specs.List.{AllByRecursion}
use Rattle.std.proofs.lemmas.Bool.{eqb-true, eq-eqb, lt-ltb}
use Rattle.std.proofs.lemmas.Slice.Eq.{bytes_eq-Decides}
use Rattle.nest_tree.specs.declared.kernel.Kernel.{Kernel}
use Rattle.nest_tree.specs.declared.kernel.Nest.{Nest}
use Rattle.nest_tree.specs.Carriers.{shared}
use Rattle.nest_tree.specs.Lists.{IsIn, IsStrictlySorted}
use Rattle.nest_core.specs.Order.{is_earlier, HasPositions, next_positions, at_positions, numbered, numbered_after}
use Rattle.nest_core.specs.Shapes.{IsShaped}
use Rattle.nest_core.proofs.Ordered.{has_positions}
use Rattle.nest_core.proofs.Sharing.{shared-first_below}
use Rattle.move_laws.proofs.Recounting.{earlier-through}

abbrev pub IsEarlier : Nest → Nest → Type 0
IsEarlier n m = is_earlier n.positions m.positions ≡ true

pub not-itself : (ps : List ℕ) → is_earlier ps ps ≡ true → ⊥
not-itself [] h = cc
not-itself (p ∷ ps) h = not-itself ps (subst (λ (b : Bool). cond b (is_earlier ps ps) (nat_lt p p) ≡ true) (eq-eqb p p refl) h)

pub told-apart : (ps qs : List ℕ) → is_earlier ps qs ≡ true → bytes_eq ps qs ≡ false
told-apart ps qs h = by (bytes_eq ps qs) refl
  where
    by : (b : Bool) → bytes_eq ps qs ≡ b → bytes_eq ps qs ≡ false
    by true e = absurd (let d : ps ≡ qs = (bytes_eq-Decides ps qs).0 e in not-itself qs (subst (λ (l : List ℕ). is_earlier l qs ≡ true) d h))
    by false e = e

smaller-first : (p q : ℕ) (x : Bool) → p < q → cond (nat_eq p q) x (nat_lt p q) ≡ true
smaller-first p q x h = by (nat_eq p q) refl
  where
    by : (b : Bool) → nat_eq p q ≡ b → cond (nat_eq p q) x (nat_lt p q) ≡ true
    by true e = absurd (let d = eqb-true p q e in omega (arith, h, d))
    by false e = subst (λ (b : Bool). cond b x (nat_lt p q) ≡ true) (sym e) (lt-ltb p q h)

-- positions stand before those that go up by one at one of them
before-next : (c : ℕ) (ps rest : List ℕ) → c < length ps → is_earlier ps (take c ps ++ suc (slice_index_or ps c 0) ∷ rest) ≡ true
before-next c [] rest h = absurd (omega (arith, h))
before-next zero (p ∷ ps) rest h = smaller-first p (suc p) (is_earlier ps rest) (omega arith)
before-next (suc c) (p ∷ ps) rest h =
    let more = before-next c ps rest (omega (arith, h)) in
    let next : List ℕ = take c ps ++ suc (slice_index_or ps c 0) ∷ rest in
    subst (λ (b : Bool). cond b (is_earlier ps next) (nat_lt p p) ≡ true) (sym (eq-eqb p p refl)) more

earlier-next : (c : ℕ) (ps : List ℕ) (count : ℕ) → c < length ps → is_earlier ps (next_positions c ps count) ≡ true
unfolding next_positions
earlier-next c ps count h = before-next c ps (replicate (count - suc c) 0) h

-- statements behind one, whose positions are those that they get when they are counted anew
behind-in_order : (old : List ℕ) (ns : List Nest) → 0 < length old → AllByRecursion HasPositions ns → numbered_after old old ns ≡ ns
    → ((m : Nest) → IsIn m ns → is_earlier old m.positions ≡ true) × IsStrictlySorted IsEarlier ns
behind-in_order old [] h a e = (λ m b. absurd b, tt)
behind-in_order old (n ∷ ns) h a e =
    let ps : List ℕ = next_positions (shared old n.positions) old (length n.positions) in
    let first : at_positions n ps ≡ n = cc in
    let same : ps ≡ n.positions = ap (λ (m : Nest). m.positions) first in
    let rest : numbered_after n.positions ps ns ≡ ns = cc in
    let more = behind-in_order n.positions ns a.0 a.1 (subst (λ (l : List ℕ). numbered_after n.positions l ns ≡ ns) same rest) in
    let here : is_earlier old n.positions ≡ true = subst (λ (l : List ℕ). is_earlier old l ≡ true) same (earlier-next (shared old n.positions) old (length n.positions) (shared-first_below old n.positions h)) in (
      λ m b. elim b [
        | inl d ↦ subst (λ (x : Nest). is_earlier old x.positions ≡ true) (sym d) here
        | inr c ↦ earlier-through old n.positions m.positions here (more.0 m c)
      ],
      (more.0, more.1),
    )

counted-in_order : (ns : List Nest) → AllByRecursion HasPositions ns → numbered ns ≡ ns → IsStrictlySorted IsEarlier ns
unfolding numbered
counted-in_order [] a e = tt
counted-in_order (n ∷ ns) a e =
    let zeros : List ℕ = replicate (length n.positions) 0 in
    let first : at_positions n zeros ≡ n = cc in
    let same : zeros ≡ n.positions = ap (λ (m : Nest). m.positions) first in
    let rest : numbered_after n.positions zeros ns ≡ ns = cc in
    behind-in_order n.positions ns a.0 a.1 (subst (λ (l : List ℕ). numbered_after n.positions l ns ≡ ns) same rest)

pub in_order : (k : Kernel) → IsShaped k → IsStrictlySorted IsEarlier k.nests
in_order k s = counted-in_order k.nests (has_positions k.head k.nests s.nests) s.counted
