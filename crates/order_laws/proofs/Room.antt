-- Statements behind a loop that make room for more loops stand to one another, and to all others, as before.
use Rattle.std.proofs.Common.{◌≡◌, inl, inr, ℕ, zero, suc, ◌+◌, ◌<◌, ◌≤◌, Bool, true, false, cond, List, [], ◌∷◌, map, length, refl, sym, ◌∙◌, ap, subst, subst₂, arith, nat_eq, nat_lt, nat_le, pos}
use Rattle.std.specs.Prelude.{◌&&◌, slice_set, slice_index_or}
use Rattle.std.proofs.lemmas.Bool.{eqb-true, eq-eqb, eqb-false, ne_eqb, ltb-true, ltb-false, leb-true, leb-false, le-leb, lt-leb}
use Rattle.std.proofs.lemmas.Int.{ints}
use Rattle.nest_tree.specs.Carriers.{shared}
use Rattle.nest_tree.specs.Places.{IsBefore, IsTextBefore}
use Rattle.order_laws.specs.Others.{StandAlike}

-- the positions of a statement that stands behind that loop, in the loops around it, so many children further; any other's as they are
abbrev pub roomy : ℕ → ℕ → List ℕ → List ℕ → List ℕ
roomy more l ns ps = cond (nat_le l (shared ns ps) && nat_lt (slice_index_or ns l 0) (slice_index_or ps l 0)) (slice_set ps l (slice_index_or ps l 0 + more)) ps

module _ (more : ℕ) where
  -- the same, loop by loop
  abbrev head-moved : ℕ → ℕ → ℕ
  head-moved n p = cond (nat_lt n p) (p + more) p

  abbrev put : ℕ → List ℕ → List ℕ → List ℕ
  put zero ns [] = []
  put zero ns (p ∷ ps) = head-moved (slice_index_or ns 0 0) p ∷ ps
  put (suc l) (n ∷ n' ∷ ns) (p ∷ p' ∷ ps) = p ∷ cond (nat_eq n p) (put l (n' ∷ ns) (p' ∷ ps)) (p' ∷ ps)
  put (suc l) _ ps = ps

  cond-in : (b : Bool) (p : ℕ) (xs ys : List ℕ) → cond b (p ∷ xs) (p ∷ ys) ≡ p ∷ cond b xs ys
  cond-in true p xs ys = refl
  cond-in false p xs ys = refl

  same-cond : (b : Bool) (xs : List ℕ) → cond b xs xs ≡ xs
  same-cond true xs = refl
  same-cond false xs = refl

  first-put : (b : Bool) (p : ℕ) (ps : List ℕ) → cond b ((p + more) ∷ ps) (p ∷ ps) ≡ cond b (p + more) p ∷ ps
  first-put true p ps = refl
  first-put false p ps = refl

  none-behind : (l : ℕ) (b : Bool) (xs ys : List ℕ) → cond (nat_le (suc l) 0 && b) xs ys ≡ ys
  none-behind l b xs ys = by (nat_le (suc l) 0) refl
    where
      by : (c : Bool) → nat_le (suc l) 0 ≡ c → cond (c && b) xs ys ≡ ys
      by true e = absurd (let a = leb-true (suc l) 0 e in omega (arith, a))
      by false e = refl

  one-less : (l m : ℕ) → nat_le (suc l) (suc m) ≡ nat_le l m
  one-less l m = by (nat_le l m) refl
    where
      by : (c : Bool) → nat_le l m ≡ c → nat_le (suc l) (suc m) ≡ c
      by true e = le-leb (suc l) (suc m) (let a = leb-true l m e in omega (arith, a))
      by false e = lt-leb (suc l) (suc m) (let a = leb-false l m e in omega (arith, a))

  put-is : (l : ℕ) (ns ps : List ℕ) → roomy more l ns ps ≡ put l ns ps
  put-is zero ns [] = same-cond _ []
  put-is zero ns (p ∷ ps) = rw (le-leb 0 (shared ns (p ∷ ps)) (omega arith)) (first-put (nat_lt (slice_index_or ns 0 0) p) p ps)
  put-is (suc l) [] ps = none-behind l _ _ ps
  put-is (suc l) (n ∷ []) ps = none-behind l _ _ ps
  put-is (suc l) (n ∷ n' ∷ ns) [] = none-behind l _ _ []
  put-is (suc l) (n ∷ n' ∷ ns) (p ∷ []) = none-behind l _ _ (p ∷ [])
  put-is (suc l) (n ∷ n' ∷ ns) (p ∷ p' ∷ ps) = by (nat_eq n p) refl (put-is l (n' ∷ ns) (p' ∷ ps))
    where
      by : (b : Bool) → nat_eq n p ≡ b → roomy more l (n' ∷ ns) (p' ∷ ps) ≡ put l (n' ∷ ns) (p' ∷ ps) → roomy more (suc l) (n ∷ n' ∷ ns) (p ∷ p' ∷ ps) ≡ put (suc l) (n ∷ n' ∷ ns) (p ∷ p' ∷ ps)
      by true e h = rw (e, one-less l (shared (n' ∷ ns) (p' ∷ ps))) (cond-in (nat_le l (shared (n' ∷ ns) (p' ∷ ps)) && nat_lt (slice_index_or (n' ∷ ns) l 0) (slice_index_or (p' ∷ ps) l 0)) p _ (p' ∷ ps) ∙ ap (λ (xs : List ℕ). p ∷ xs) h)
      by false e h = rw e (none-behind l _ _ (p ∷ p' ∷ ps))

  put-length : (l : ℕ) (ns ps : List ℕ) → length (put l ns ps) ≡ length ps
  put-length zero ns [] = refl
  put-length zero ns (p ∷ ps) = refl
  put-length (suc l) [] ps = refl
  put-length (suc l) (n ∷ []) ps = refl
  put-length (suc l) (n ∷ n' ∷ ns) [] = refl
  put-length (suc l) (n ∷ n' ∷ ns) (p ∷ []) = refl
  put-length (suc l) (n ∷ n' ∷ ns) (p ∷ p' ∷ ps) = by (nat_eq n p) (put-length l (n' ∷ ns) (p' ∷ ps))
    where
      by : (b : Bool) → length (put l (n' ∷ ns) (p' ∷ ps)) ≡ suc (length ps) → suc (length (cond b (put l (n' ∷ ns) (p' ∷ ps)) (p' ∷ ps))) ≡ suc (suc (length ps))
      by true h = ap suc h
      by false h = refl

  -- heads keep their order
  head-less : (n p q : ℕ) → p < q → head-moved n p < head-moved n q
  head-less n p q h = by (nat_lt n p) (nat_lt n q) refl refl
    where
      by : (b c : Bool) → nat_lt n p ≡ b → nat_lt n q ≡ c → head-moved n p < head-moved n q
      by true true e f = rw (e, f) (omega (arith, h))
      by true false e f = absurd (let x = ltb-true n p e in let y = ltb-false n q f in omega (arith, x, y, h))
      by false true e f = rw (e, f) (omega (arith, h))
      by false false e f = rw (e, f) h

  below : (p q : ℕ) → q ≤ p → (p ≡ q → ⊥) → q < p
  below p q h k = by (nat_eq p q) refl
    where
      by : (b : Bool) → nat_eq p q ≡ b → q < p
      by true e = absurd (k (eqb-true p q e))
      by false e = omega (arith, h, k)

  heads-apart : (n p q : ℕ) → nat_eq p q ≡ false → nat_eq (head-moved n p) (head-moved n q) ≡ false
  heads-apart n p q e = by (nat_lt p q) refl
    where
      by : (b : Bool) → nat_lt p q ≡ b → nat_eq (head-moved n p) (head-moved n q) ≡ false
      by true f = ne_eqb _ _ (λ g. (let a = head-less n p q (ltb-true p q f) in omega (arith, a, g)))
      by false f = ne_eqb _ _ (λ g. (let x = ltb-false p q f in let y : p ≡ q → ⊥ = eqb-false p q e in let a = head-less n q p (below p q x y) in omega (arith, a, g)))

  -- what two positions with tails share
  shared-more : (p q : ℕ) (xs ys : List ℕ) → 0 < length xs → 0 < length ys → shared (p ∷ xs) (q ∷ ys) ≡ cond (nat_eq p q) (suc (shared xs ys)) 0
  shared-more p q [] ys h k = absurd (omega (arith, h))
  shared-more p q (x ∷ xs) [] h k = absurd (omega (arith, k))
  shared-more p q (x ∷ xs) (y ∷ ys) h k = refl

  shared-short : (q : ℕ) (xs : List ℕ) → shared xs (q ∷ []) ≡ 0
  shared-short q [] = refl
  shared-short q (x ∷ []) = refl
  shared-short q (x ∷ x' ∷ xs) = refl

  shared-none : (xs : List ℕ) → shared xs [] ≡ 0
  shared-none [] = refl
  shared-none (x ∷ []) = refl
  shared-none (x ∷ x' ∷ xs) = refl

  -- what is behind the first position of a statement that is in these loops
  abbrev inside : ℕ → List ℕ → ℕ → ℕ → List ℕ → List ℕ
  inside l ns n p xs = cond (nat_eq n p) (put l ns xs) xs

  inside-length : (l : ℕ) (ns : List ℕ) (n p : ℕ) (xs : List ℕ) → length (inside l ns n p xs) ≡ length xs
  inside-length l ns n p xs = by (nat_eq n p)
    where
      by : (b : Bool) → length (cond b (put l ns xs) xs) ≡ length xs
      by true = put-length l ns xs
      by false = refl

  shares-put : (l : ℕ) (ns ps qs : List ℕ) → shared (put l ns ps) (put l ns qs) ≡ shared ps qs
  shares-put zero ns [] qs = refl
  shares-put zero ns (p ∷ []) qs = refl
  shares-put zero ns (p ∷ p' ∷ ps) [] = refl
  shares-put zero ns (p ∷ p' ∷ ps) (q ∷ []) = refl
  shares-put zero ns (p ∷ p' ∷ ps) (q ∷ q' ∷ qs) = by (nat_eq p q) refl
    where
      n : ℕ
      n = slice_index_or ns 0 0

      by : (b : Bool) → nat_eq p q ≡ b → shared (head-moved n p ∷ p' ∷ ps) (head-moved n q ∷ q' ∷ qs) ≡ shared (p ∷ p' ∷ ps) (q ∷ q' ∷ qs)
      by true e = (let d = eqb-true p q e in subst (λ (x : ℕ). shared (head-moved n p ∷ p' ∷ ps) (head-moved n x ∷ q' ∷ qs) ≡ shared (p ∷ p' ∷ ps) (x ∷ q' ∷ qs)) d (rw (eq-eqb p p refl, eq-eqb (head-moved n p) (head-moved n p) refl) refl))
      by false e = rw (e, heads-apart n p q e) refl
  shares-put (suc l) [] ps qs = refl
  shares-put (suc l) (n ∷ []) ps qs = refl
  shares-put (suc l) (n ∷ n' ∷ ns) [] qs = refl
  shares-put (suc l) (n ∷ n' ∷ ns) (p ∷ []) qs = refl
  shares-put (suc l) (n ∷ n' ∷ ns) (p ∷ p' ∷ ps) [] = shared-none (p ∷ inside l (n' ∷ ns) n p (p' ∷ ps))
  shares-put (suc l) (n ∷ n' ∷ ns) (p ∷ p' ∷ ps) (q ∷ []) = shared-short q (p ∷ inside l (n' ∷ ns) n p (p' ∷ ps))
  shares-put (suc l) (n ∷ n' ∷ ns) (p ∷ p' ∷ ps) (q ∷ q' ∷ qs) = unfolded ∙ by (nat_eq p q) refl (shares-put l (n' ∷ ns) (p' ∷ ps) (q' ∷ qs))
    where
      at : ℕ → List ℕ → List ℕ
      at x xs = inside l (n' ∷ ns) n x xs

      unfolded : shared (p ∷ at p (p' ∷ ps)) (q ∷ at q (q' ∷ qs)) ≡ cond (nat_eq p q) (suc (shared (at p (p' ∷ ps)) (at q (q' ∷ qs)))) 0
      unfolded = (let a = inside-length l (n' ∷ ns) n p (p' ∷ ps) in let b = inside-length l (n' ∷ ns) n q (q' ∷ qs) in
          shared-more p q (at p (p' ∷ ps)) (at q (q' ∷ qs)) (omega (arith, a)) (omega (arith, b)))

      same : (b : Bool) → shared (put l (n' ∷ ns) (p' ∷ ps)) (put l (n' ∷ ns) (q' ∷ qs)) ≡ shared (p' ∷ ps) (q' ∷ qs) → shared (cond b (put l (n' ∷ ns) (p' ∷ ps)) (p' ∷ ps)) (cond b (put l (n' ∷ ns) (q' ∷ qs)) (q' ∷ qs)) ≡ shared (p' ∷ ps) (q' ∷ qs)
      same true h = h
      same false h = refl

      by : (b : Bool) → nat_eq p q ≡ b → shared (put l (n' ∷ ns) (p' ∷ ps)) (put l (n' ∷ ns) (q' ∷ qs)) ≡ shared (p' ∷ ps) (q' ∷ qs) → cond (nat_eq p q) (suc (shared (at p (p' ∷ ps)) (at q (q' ∷ qs)))) 0 ≡ cond (nat_eq p q) (suc (shared (p' ∷ ps) (q' ∷ qs))) 0
      by true e h = (let d = eqb-true p q e in
          ap (λ (k : ℕ). cond (nat_eq p q) (suc k) 0) (subst (λ (x : ℕ). shared (at p (p' ∷ ps)) (at x (q' ∷ qs)) ≡ shared (p' ∷ ps) (q' ∷ qs)) d (same (nat_eq n p) h)))
      by false e h = rw e refl

  before-more : (xs : List ℕ) → 0 < length xs → IsBefore [] (map pos xs)
  before-more [] h = absurd (omega (arith, h))
  before-more (x ∷ xs) h = tt

  before-put : (l : ℕ) (ns ps qs : List ℕ) → IsTextBefore ps qs → IsTextBefore (put l ns ps) (put l ns qs)
  before-put zero ns [] [] h = h
  before-put zero ns [] (q ∷ qs) h = tt
  before-put zero ns (p ∷ ps) [] h = absurd h
  before-put zero ns (p ∷ ps) (q ∷ qs) (inl h) = inl (let a = head-less (slice_index_or ns 0 0) p q (omega (arith, ints, h)) in omega (arith, ints, a))
  before-put zero ns (p ∷ ps) (q ∷ qs) (inr h) = inr (let d : p ≡ q = (let e = h.0 in omega (arith, ints, e)) in ap (λ (x : ℕ). pos (head-moved (slice_index_or ns 0 0) x)) d, h.1)
  before-put (suc l) [] ps qs h = h
  before-put (suc l) (n ∷ []) ps qs h = h
  before-put (suc l) (n ∷ n' ∷ ns) [] [] h = h
  before-put (suc l) (n ∷ n' ∷ ns) [] (q ∷ []) h = tt
  before-put (suc l) (n ∷ n' ∷ ns) [] (q ∷ q' ∷ qs) h = tt
  before-put (suc l) (n ∷ n' ∷ ns) (p ∷ ps) [] h = absurd h
  before-put (suc l) (n ∷ n' ∷ ns) (p ∷ []) (q ∷ []) h = h
  before-put (suc l) (n ∷ n' ∷ ns) (p ∷ []) (q ∷ q' ∷ qs) (inl h) = inl h
  before-put (suc l) (n ∷ n' ∷ ns) (p ∷ []) (q ∷ q' ∷ qs) (inr h) = inr (h.0, (let a = inside-length l (n' ∷ ns) n q (q' ∷ qs) in before-more (inside l (n' ∷ ns) n q (q' ∷ qs)) (omega (arith, a))))
  before-put (suc l) (n ∷ n' ∷ ns) (p ∷ p' ∷ ps) (q ∷ []) (inl h) = inl h
  before-put (suc l) (n ∷ n' ∷ ns) (p ∷ p' ∷ ps) (q ∷ []) (inr h) = absurd (h.1)
  before-put (suc l) (n ∷ n' ∷ ns) (p ∷ p' ∷ ps) (q ∷ q' ∷ qs) (inl h) = inl h
  before-put (suc l) (n ∷ n' ∷ ns) (p ∷ p' ∷ ps) (q ∷ q' ∷ qs) (inr h) = inr (h.0, within (before-put l (n' ∷ ns) (p' ∷ ps) (q' ∷ qs) h.1))
    where
      d : p ≡ q
      d = let e = h.0 in omega (arith, ints, e)

      same : (b : Bool) → IsTextBefore (put l (n' ∷ ns) (p' ∷ ps)) (put l (n' ∷ ns) (q' ∷ qs)) → IsTextBefore (cond b (put l (n' ∷ ns) (p' ∷ ps)) (p' ∷ ps)) (cond b (put l (n' ∷ ns) (q' ∷ qs)) (q' ∷ qs))
      same true a = a
      same false a = h.1

      within : IsTextBefore (put l (n' ∷ ns) (p' ∷ ps)) (put l (n' ∷ ns) (q' ∷ qs)) → IsTextBefore (inside l (n' ∷ ns) n p (p' ∷ ps)) (inside l (n' ∷ ns) n q (q' ∷ qs))
      within a = subst (λ (x : ℕ). IsTextBefore (inside l (n' ∷ ns) n p (p' ∷ ps)) (inside l (n' ∷ ns) n x (q' ∷ qs))) d (same (nat_eq n p) a)

  pub roomy-length : (l : ℕ) (ns ps : List ℕ) → length (roomy more l ns ps) ≡ length ps
  roomy-length l ns ps = ap (λ (xs : List ℕ). length xs) (put-is l ns ps) ∙ put-length l ns ps

  pub roomy-alike : (l : ℕ) (ns ps qs : List ℕ) → StandAlike ps qs (roomy more l ns ps) (roomy more l ns qs)
  roomy-alike l ns ps qs = subst₂ (λ (xs ys : List ℕ). StandAlike ps qs xs ys) (sym (put-is l ns ps)) (sym (put-is l ns qs)) (record { shares = shares-put l ns ps qs; before = before-put l ns ps qs })
