-- Positions that are counted anew keep the order of statements and the loops that they share.
use Rattle.std.proofs.Common.{◌≡◌, ◌⊎◌, inl, inr, ℕ, zero, suc, ◌+◌, ◌-◌, ◌<◌, Bool, true, false, cond, List, [], ◌∷◌, ◌++◌, length, take, refl, sym, subst, ◌∙◌, ap, arith, nat_eq, nat_lt, min}
use Rattle.std.specs.Prelude.{replicate, slice_index_or}
use Rattle.std.proofs.lemmas.Bool.{eqb-true, eq-eqb, ltb-true, lt-ltb}
use Rattle.nest_tree.specs.Carriers.{shared}
use Rattle.nest_tree.specs.declared.kernel.Nest.{Nest}
use Rattle.nest_core.specs.Order.{is_earlier, next_positions, at_positions, numbered, numbered_after}
use Rattle.move_laws.specs.Recounting.{Positions, recounted, AreInOrder, StandAlike, RecountingKeepsOrder, positions_of, NumberingKeepsOrder}

differ : (p q : ℕ) → (p ≡ q → ⊥) → nat_eq p q ≡ false
differ p q h = by (nat_eq p q) refl
  where
    by : (b : Bool) → nat_eq p q ≡ b → nat_eq p q ≡ false
    by true e = absurd (h (eqb-true p q e))
    by false e = e

-- one stands before another by its first number, or by those behind it
first-before : (p q : ℕ) (x : Bool) → cond (nat_eq p q) x (nat_lt p q) ≡ true → ((p ≡ q) × (x ≡ true)) ⊎ (p < q)
first-before p q x h = by (nat_eq p q) refl h
  where
    by : (b : Bool) → nat_eq p q ≡ b → cond b x (nat_lt p q) ≡ true → ((p ≡ q) × (x ≡ true)) ⊎ (p < q)
    by true e k = inl (eqb-true p q e, k)
    by false e k = inr (ltb-true p q k)

before-first : (p q : ℕ) (x : Bool) → p < q → cond (nat_eq p q) x (nat_lt p q) ≡ true
before-first p q x h = let e : nat_eq p q ≡ false = differ p q (λ d. omega (arith, h, d)) in rw e (lt-ltb p q h)

same-first : (p : ℕ) (x y : Bool) → cond (nat_eq p p) x y ≡ x
same-first p x y = rw (eq-eqb p p refl) refl

none-shared : (p q : ℕ) (n : ℕ) → (p ≡ q → ⊥) → cond (nat_eq p q) n 0 ≡ 0
none-shared p q n h = rw (differ p q h) refl

one-shared : (p q : ℕ) (n : ℕ) → p ≡ q → cond (nat_eq p q) n 0 ≡ n
one-shared p q n h = rw (eq-eqb p q h) refl

-- of three in order, the first and the last share what both share with the one between
pub shared-between : (a b c : Positions) → is_earlier a b ≡ true → is_earlier b c ≡ true → shared a c ≡ min (shared a b) (shared b c)
shared-between [] b c h k = omega arith
shared-between (p ∷ []) b c h k = omega arith
shared-between (p ∷ p' ∷ ps) [] c h k = absurd cc
shared-between (p ∷ p' ∷ ps) (q ∷ qs) [] h k = absurd cc
shared-between (p ∷ p' ∷ ps) (q ∷ []) (r ∷ []) h k = refl
shared-between (p ∷ p' ∷ ps) (q ∷ []) (r ∷ r' ∷ rs) h k = none-shared p r _ (elim (first-before p q false h) [
  | inl e ↦ absurd (let f = e.1 in cc)
  | inr l ↦ elim (first-before q r true k) [ inl f ↦ (λ d. let g = f.0 in omega (arith, l, g, d)) | inr m ↦ (λ d. omega (arith, l, m, d)) ]
])
shared-between (p ∷ p' ∷ ps) (q ∷ q' ∷ qs) (r ∷ []) h k = omega arith
shared-between (p ∷ p' ∷ ps) (q ∷ q' ∷ qs) (r ∷ r' ∷ rs) h k = elim (first-before p q (is_earlier (p' ∷ ps) (q' ∷ qs)) h) [
  | inl e ↦ elim (first-before q r (is_earlier (q' ∷ qs) (r' ∷ rs)) k) [
    | inl f ↦ (
        let i = shared-between (p' ∷ ps) (q' ∷ qs) (r' ∷ rs) e.1 f.1 in
        let x = one-shared p q (suc (shared (p' ∷ ps) (q' ∷ qs))) e.0 in
        let y = one-shared q r (suc (shared (q' ∷ qs) (r' ∷ rs))) f.0 in
        let z = one-shared p r (suc (shared (p' ∷ ps) (r' ∷ rs))) (e.0 ∙ f.0) in
        omega (arith, i, x, y, z))
    | inr m ↦ (
        let y = none-shared q r (suc (shared (q' ∷ qs) (r' ∷ rs))) (λ d. omega (arith, m, d)) in
        let z = none-shared p r (suc (shared (p' ∷ ps) (r' ∷ rs))) (λ d. let g = e.0 in omega (arith, m, d, g)) in
        omega (arith, y, z))
  ]
  | inr l ↦ (
      let x = none-shared p q (suc (shared (p' ∷ ps) (q' ∷ qs))) (λ d. omega (arith, l, d)) in
      let z = none-shared p r (suc (shared (p' ∷ ps) (r' ∷ rs))) (elim (first-before q r (is_earlier (q' ∷ qs) (r' ∷ rs)) k) [ inl f ↦ (λ d. let g = f.0 in omega (arith, l, g, d)) | inr m ↦ (λ d. omega (arith, l, m, d)) ]) in
      omega (arith, x, z))
]

pub earlier-through : (a b c : Positions) → is_earlier a b ≡ true → is_earlier b c ≡ true → is_earlier a c ≡ true
earlier-through [] [] c h k = absurd cc
earlier-through [] (q ∷ qs) [] h k = absurd cc
earlier-through [] (q ∷ qs) (r ∷ rs) h k = refl
earlier-through (p ∷ ps) [] c h k = absurd cc
earlier-through (p ∷ ps) (q ∷ qs) [] h k = absurd cc
earlier-through (p ∷ ps) (q ∷ qs) (r ∷ rs) h k = elim (first-before p q (is_earlier ps qs) h) [
  | inl e ↦ elim (first-before q r (is_earlier qs rs) k) [
    | inl f ↦ rw (eq-eqb p r (e.0 ∙ f.0)) (earlier-through ps qs rs e.1 f.1)
    | inr m ↦ before-first p r (is_earlier ps rs) (let g = e.0 in omega (arith, m, g))
  ]
  | inr l ↦ before-first p r (is_earlier ps rs) (elim (first-before q r (is_earlier qs rs) k) [ inl f ↦ (let g = f.0 in omega (arith, l, g)) | inr m ↦ omega (arith, l, m) ])
]

shared-below : (a b : Positions) → 0 < length a → 0 < length b → (shared a b < length a) × (shared a b < length b)
shared-below [] b h k = absurd (omega (arith, h))
shared-below (p ∷ []) b h k = (omega arith, k)
shared-below (p ∷ p' ∷ ps) [] h k = absurd (omega (arith, k))
shared-below (p ∷ p' ∷ ps) (q ∷ []) h k = (omega arith, omega arith)
shared-below (p ∷ p' ∷ ps) (q ∷ q' ∷ qs) h k = by (nat_eq p q) refl (shared-below (p' ∷ ps) (q' ∷ qs) (omega arith) (omega arith))
  where
    by : (b : Bool) → nat_eq p q ≡ b → (shared (p' ∷ ps) (q' ∷ qs) < length (p' ∷ ps)) × (shared (p' ∷ ps) (q' ∷ qs) < length (q' ∷ qs))
        → (cond (nat_eq p q) (suc (shared (p' ∷ ps) (q' ∷ qs))) 0 < length (p ∷ p' ∷ ps)) × (cond (nat_eq p q) (suc (shared (p' ∷ ps) (q' ∷ qs))) 0 < length (q ∷ q' ∷ qs))
    by true e i = rw e (let x = i.0 in let y = i.1 in (omega (arith, x), omega (arith, y)))
    by false e i = rw e (omega arith, omega arith)

-- the next child of a loop of the one before
next : ℕ → Positions → ℕ → Positions
next zero [] k = suc 0 ∷ replicate k 0
next zero (n ∷ ns) k = suc n ∷ replicate k 0
next (suc c) [] k = replicate k 0
next (suc c) (n ∷ ns) k = n ∷ next c ns k

next-is : (c : ℕ) (new : Positions) (k : ℕ) → c < length new → take c new ++ suc (slice_index_or new c 0) ∷ replicate k 0 ≡ next c new k
unfolding next
next-is c [] k h = absurd (omega (arith, h))
next-is zero (n ∷ ns) k h = refl
next-is (suc c) (n ∷ ns) k h = ap (λ (l : Positions). n ∷ l) (next-is c ns k (omega (arith, h)))

length-next : (c : ℕ) (new : Positions) (k : ℕ) → c < length new → length (next c new k) ≡ suc (c + k)
unfolding next
length-next c [] k h = absurd (omega (arith, h))
length-next zero (n ∷ ns) k h = ap suc (zeros k) ∙ omega arith
  where
    zeros : (k : ℕ) → length {A = ℕ} (replicate k 0) ≡ k
    zeros zero = refl
    zeros (suc k) = ap suc (zeros k)
length-next (suc c) (n ∷ ns) k h = ap suc (length-next c ns k (omega (arith, h))) ∙ omega arith

earlier-next : (c : ℕ) (new : Positions) (k : ℕ) → c < length new → is_earlier new (next c new k) ≡ true
unfolding next
earlier-next c [] k h = absurd (omega (arith, h))
earlier-next zero (n ∷ ns) k h = before-first n (suc n) (is_earlier ns (replicate k 0)) (omega arith)
earlier-next (suc c) (n ∷ ns) k h = same-first n _ _ ∙ earlier-next c ns k (omega (arith, h))

shared-next : (c : ℕ) (new : Positions) (k : ℕ) → c < length new → shared new (next c new k) ≡ c
unfolding next
shared-next c [] k h = absurd (omega (arith, h))
shared-next zero (n ∷ []) k h = refl
shared-next zero (n ∷ n' ∷ ns) zero h = refl
shared-next zero (n ∷ n' ∷ ns) (suc k) h = none-shared n (suc n) _ (λ d. omega (arith, d))
shared-next (suc c) (n ∷ []) k h = absurd (omega (arith, h))
shared-next (suc zero) (n ∷ n' ∷ ns) k h = one-shared n n _ refl ∙ ap suc (shared-next zero (n' ∷ ns) k (omega (arith, h)))
shared-next (suc (suc c)) (n ∷ n' ∷ ns) k h = one-shared n n _ refl ∙ ap suc (shared-next (suc c) (n' ∷ ns) k (omega (arith, h)))

-- each stands behind the first
abbrev AreAll : Positions → List Positions → Type 0
AreAll old [] = Unit
AreAll old (p ∷ ps) = (is_earlier old p ≡ true) × AreAll old ps

-- where two stand alike to their first ones, they do to what these stand behind
module _ (old new p q : Positions) (s : shared new q ≡ shared old p) (e : is_earlier new q ≡ true) (o : is_earlier old p ≡ true) where
  through : (ps qs : List Positions) → AreAll p ps → StandAlike p q ps qs → StandAlike old new ps qs
  through [] qs a h = tt
  through (r ∷ ps) [] a h = absurd h
  through (r ∷ ps) (t ∷ qs) a h = (
    shared-between new q t e h.1 ∙ (let x = h.0 in let y = s in let z = shared-between old p r o a.0 in omega (arith, x, y, z)),
    earlier-through new q t e h.1,
    h.2,
    through ps qs a.1 h.3,
  )

all-behind : (old p : Positions) (ps : List Positions) → is_earlier old p ≡ true → AreAll p ps → AreAll old ps
all-behind old p [] h a = tt
all-behind old p (r ∷ ps) h a = (earlier-through old p r h a.0, all-behind old p ps h a.1)

in_order-all : (old : Positions) (ps : List Positions) → AreInOrder old ps → AreAll old ps
in_order-all old [] o = tt
in_order-all old (p ∷ ps) o = (o.0, all-behind old p ps o.0 (in_order-all p ps o.2))

pub recounting : RecountingKeepsOrder
unfolding next_positions
recounting old new [] h l o = tt
recounting old new (p ∷ ps) h l o =
    let b = shared-below old p h o.1 in
    let c : shared old p < length new = let x = b.0 in omega (arith, x, l) in
    let d : shared old p < length p = b.1 in
    let q : Positions = next_positions (shared old p) new (length p) in
    let is : q ≡ next (shared old p) new (length p - suc (shared old p)) = next-is (shared old p) new (length p - suc (shared old p)) c in
    let s : shared new q ≡ shared old p = ap (shared new) is ∙ shared-next (shared old p) new (length p - suc (shared old p)) c in
    let e : is_earlier new q ≡ true = ap (is_earlier new) is ∙ earlier-next (shared old p) new (length p - suc (shared old p)) c in
    let n : length q ≡ length p = ap (λ (x : Positions). length x) is ∙ length-next (shared old p) new (length p - suc (shared old p)) c ∙ omega (arith, d) in
    (s, e, n, through old new p q s e o.0 ps (recounted p q ps) (in_order-all p ps o.2) (recounting p q ps o.1 n o.2))

-- the code's numbering counts positions so
numbered-counts : (old new : Positions) (ns : List Nest) → positions_of (numbered_after old new ns) ≡ recounted old new (positions_of ns)
numbered-counts old new [] = refl
numbered-counts old new (n ∷ ns) =
    let ps : Positions = next_positions (shared old n.positions) new (length n.positions) in
    ap (λ (l : List Positions). ps ∷ l) (numbered-counts n.positions ps ns)

pub numbering : NumberingKeepsOrder
unfolding numbered
numbering n ns h o =
    let first : Positions = replicate (length n.positions) 0 in
    let l : length first ≡ length n.positions = length-replicate (length n.positions) 0 in (
      at_positions n first,
      numbered_after n.positions first ns,
      refl,
      l,
      subst (StandAlike n.positions first (positions_of ns)) (sym (numbered-counts n.positions first ns)) (recounting n.positions first (positions_of ns) h l o),
    )
  where
    length-replicate : (k x : ℕ) → length {A = ℕ} (replicate k x) ≡ k
    length-replicate zero x = refl
    length-replicate (suc k) x = ap suc (length-replicate k x)
