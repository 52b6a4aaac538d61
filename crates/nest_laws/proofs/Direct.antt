-- A row that is direct at a level bounds that level by what the outer levels give.
use Rattle.std.proofs.Common.{◌≡◌, ◌⊎◌, inl, inr, ℕ, zero, suc, ◌+◌, ◌<◌, List, [], ◌∷◌, ◌++◌, length, refl, sym, ◌∙◌, ap, subst, arith, ℤ, pos, negsuc, ◌+ℤ◌, ◌*ℤ◌, neg_ℤ, ◌≤ℤ◌, ◌<ℤ◌}
use Rattle.std.specs.Int.{int_div_euclid}
use Rattle.std.proofs.lemmas.Int.{ints}
use lib.IntN.{zero-*ℤ, *ℤ-zero}
use Rattle.chill_base.proofs.Ring.{not_negative_product, expand}
use Rattle.int_rows.specs.declared.row.Aff.{Aff}
use Rattle.int_rows.specs.Rows.{dot}
use Rattle.nest_tree.specs.declared.kernel.Term.{Term}
use Rattle.nest_tree.specs.Lists.{IsIn, IsAt}
use Rattle.nest_tree.specs.Forms.{value, coef, Names}
use Rattle.nest_tree.specs.Levels.{IsInTile}
use Rattle.nest_tree.specs.Terms.{Input, or_zero, reading, rounds, term_values, IsReady, ready, IsDirect, with_terms, IsCut}
use Rattle.nest_laws.proofs.Points.{dot-same, coef-map, map-same, same_product, coef-before, coef-behind}
use Rattle.nest_laws.proofs.Levels.{quotient_is}

-- the coordinates behind the first
abbrev behind : List ℤ → List ℤ
behind [] = []
behind (x ∷ xs) = xs

coef-rest : (xs : List ℤ) (j : ℕ) → coef (suc j) xs ≡ coef j (behind xs)
coef-rest [] j = refl
coef-rest (x ∷ xs) j = refl

dot-none : (cs : List ℤ) → dot cs [] ≡ pos 0
dot-none [] = refl
dot-none (c ∷ cs) = refl

dot-first : (c : ℤ) (cs xs : List ℤ) → dot (c ∷ cs) xs ≡ (c *ℤ coef zero xs) +ℤ dot cs (behind xs)
dot-first c cs [] = let z : c *ℤ pos 0 ≡ pos 0 = *ℤ-zero c in let n = dot-none cs in omega (arith, ints)
dot-first c cs (x ∷ xs) = refl

not_zero : (x : ℕ) → zero ≡ suc x → ⊥
not_zero x e = omega (arith, e)

next_apart : (j x : ℕ) → (j ≡ x → ⊥) → suc j ≡ suc x → ⊥
next_apart j x n e = n (omega (arith, e))

-- points that differ at one variable alone, where the second has 0
dot-one : (cs xs ys : List ℤ) (x : ℕ) → coef x ys ≡ pos 0 → ((j : ℕ) → (coef j cs ≡ pos 0 → ⊥) → (j ≡ x → ⊥) → coef j xs ≡ coef j ys) → dot cs xs ≡ (coef x cs *ℤ coef x xs) +ℤ dot cs ys
dot-one [] xs ys x z h = (let e = zero-*ℤ (coef x xs) in omega (arith, ints))
dot-one (c ∷ cs) xs ys zero z h =
    let a = dot-first c cs xs in
    let b = dot-first c cs ys in
    let k : c *ℤ coef zero ys ≡ pos 0 = ap (λ (n : ℤ). c *ℤ n) z ∙ *ℤ-zero c in
    let r = dot-same cs (behind xs) (behind ys) (λ j n. sym (coef-rest xs j) ∙ h (suc j) n (λ e. not_zero j (sym e)) ∙ coef-rest ys j) in
    omega (arith, ints)
dot-one (c ∷ cs) xs ys (suc x) z h =
    let a = dot-first c cs xs in
    let b = dot-first c cs ys in
    let k : c *ℤ coef zero xs ≡ c *ℤ coef zero ys = same_product c (coef zero xs) (coef zero ys) (λ n. h zero n (not_zero x)) in
    let r = dot-one cs (behind xs) (behind ys) x (sym (coef-rest ys x) ∙ z) (λ j n m. sym (coef-rest xs j) ∙ h (suc j) n (next_apart j x m) ∙ coef-rest ys j) in
    let l : coef x cs *ℤ coef (suc x) xs ≡ coef x cs *ℤ coef x (behind xs) = ap (λ (n : ℤ). coef x cs *ℤ n) (coef-rest xs x) in
    omega (arith, ints)

inside_or_behind : (j w : ℕ) → (j < w) ⊎ ((n : ℕ) × (j ≡ w + n))
inside_or_behind j zero = inr (j, omega arith)
inside_or_behind zero (suc w) = inl (omega arith)
inside_or_behind (suc j) (suc w) = elim (inside_or_behind j w) [ inl h ↦ inl (omega arith) | inr (n, e) ↦ inr (n, omega arith) ]

-- a variable is before x, x itself or behind it
before_or_not : (j x : ℕ) → (j ≡ x → ⊥) → (j < x) ⊎ (x < j)
before_or_not zero zero n = absurd (n refl)
before_or_not zero (suc x) n = inl (omega arith)
before_or_not (suc j) zero n = inr (omega arith)
before_or_not (suc j) (suc x) n = elim (before_or_not j x (λ e. n (ap (λ (k : ℕ). suc k) e))) [ inl h ↦ inl (omega arith) | inr h ↦ inr (omega arith) ]

module _ (i : Input) (terms : List Term) (p q : List ℤ) (x : ℕ) (cut : IsCut x p q) where
  -- at a variable before x the two points agree, whatever stands behind them
  agree_before : (j : ℕ) (ts us : List ℤ) → j < x → coef j (p ++ ts) ≡ coef j (q ++ us)
  agree_before j ts us h =
      let a = cut.is_variable in
      let b = cut.same_length in
      coef-before p ts j (omega arith) ∙ cut.before j h ∙ sym (coef-before q us j (omega arith))

  agree_behind : (n : ℕ) (ts us : List ℤ) → coef n ts ≡ coef n us → coef (length p + n) (p ++ ts) ≡ coef (length p + n) (q ++ us)
  agree_behind n ts us h = coef-behind p ts n ∙ h ∙ sym (ap (λ (k : ℕ). coef (k + n) (q ++ us)) (sym cut.same_length) ∙ coef-behind q us n)

  -- a ready term reads the same, whatever the later levels are
  ready_rounds : (r k : ℕ) → IsReady (length p) x terms k → coef k (rounds i terms p r) ≡ coef k (rounds i terms q r)
  ready_rounds zero k h = refl
  ready_rounds (suc r) _ (ready k t at levels args) =
      coef-map (reading i (p ++ rounds i terms p r)) (reading i (q ++ rounds i terms q r)) terms k
      (λ u is. ap (λ is'. or_zero (i.cells u.array is')) (map-same (value (p ++ rounds i terms p r)) (value (q ++ rounds i terms q r)) u.at
      (λ f m. ap (λ (n : ℤ). n +ℤ f.constant) (dot-same f.coefs (p ++ rounds i terms p r) (q ++ rounds i terms q r)
      (λ j n. (
      let same : u ≡ t = one_at k u t terms is at in
      let m' : IsIn f t.at = subst (λ (v : Term). IsIn f v.at) same m in
      elim (inside_or_behind j (length p)) [
        | inl l ↦ agree_before j (rounds i terms p r) (rounds i terms q r) (levels f j m' n l)
        | inr (b, e) ↦ subst (λ (o : ℕ). coef o (p ++ rounds i terms p r) ≡ coef o (q ++ rounds i terms q r)) (sym e)
            (agree_behind b (rounds i terms p r) (rounds i terms q r) (ready_rounds r b (args f b m' (subst (λ (o : ℕ). Names f o) e n))))
      ]))))))
    where
      one_at : (k : ℕ) (u t : Term) (ts : List Term) → IsAt k u ts → IsAt k t ts → u ≡ t
      one_at k u t [] a b = absurd a
      one_at zero u t (s ∷ ts) a b = a ∙ sym b
      one_at (suc k) u t (s ∷ ts) a b = one_at k u t ts a b

  -- the value of a direct form: the level's part, and the value where the level and all later ones are cut off
  pub direct_value : (f : Aff) → IsDirect (length p) x terms f → value (with_terms i terms p) f ≡ (coef x f.coefs *ℤ coef x p) +ℤ value (with_terms i terms q) f
  direct_value f d =
      let ts : List ℤ = term_values i terms p in
      let us : List ℤ = term_values i terms q in
      let b = cut.is_variable in
      let s = cut.same_length in
      let z : coef x (q ++ us) ≡ pos 0 = coef-before q us x (omega arith) ∙ cut.zero_at in
      let e = dot-one f.coefs (p ++ ts) (q ++ us) x z (λ j n m. same j ts us n m (ready_rounds (length terms))) in
      let l : coef x f.coefs *ℤ coef x (p ++ ts) ≡ coef x f.coefs *ℤ coef x p = ap (λ (k : ℤ). coef x f.coefs *ℤ k) (coef-before p ts x b) in
      omega (arith, ints)
    where
      same : (j : ℕ) (ts us : List ℤ) → Names f j → (j ≡ x → ⊥) → ((k : ℕ) → IsReady (length p) x terms k → coef k ts ≡ coef k us) → coef j (p ++ ts) ≡ coef j (q ++ us)
      same j ts us n m h =
          elim (inside_or_behind j (length p)) [
            | inl l ↦ elim (before_or_not j x m) [ inl k ↦ agree_before j ts us k | inr k ↦ absurd (d.no_later j n k l) ]
            | inr (b, e) ↦ subst (λ (o : ℕ). coef o (p ++ ts) ≡ coef o (q ++ us)) (sym e) (agree_behind b ts us (h b (d.ready_terms b (subst (λ (o : ℕ). Names f o) e n))))
          ]

-- ---- the bound that a row a*v + e >= 0 gives
at_most_or_below : (x y : ℤ) → (x ≤ℤ y) ⊎ (y <ℤ x)
at_most_or_below x y = grind (arith, ints)

pub row-lower : (d : ℕ) (v e : ℤ) → pos 0 ≤ℤ ((pos (suc d) *ℤ v) +ℤ e) → neg_ℤ (int_div_euclid e (pos (suc d))) ≤ℤ v
row-lower d v e h =
    let t = int_div_euclid e (pos (suc d)) in
    let q : IsInTile (pos (suc d)) t e = quotient_is d e in
    let high = q.high in
    elim (at_most_or_below (neg_ℤ t) v) [
      | inl g ↦ g
      | inr g ↦ absurd (
          let p : pos 0 ≤ℤ (pos (suc d) *ℤ (neg_ℤ v +ℤ (neg_ℤ t +ℤ negsuc 0))) = not_negative_product (pos (suc d)) (neg_ℤ v +ℤ (neg_ℤ t +ℤ negsuc 0)) (omega (arith, ints)) (omega (arith, ints)) in
          let r = simp expand at p in
          omega (arith, ints))
    ]

pub lower-row : (d : ℕ) (v e : ℤ) → neg_ℤ (int_div_euclid e (pos (suc d))) ≤ℤ v → pos 0 ≤ℤ ((pos (suc d) *ℤ v) +ℤ e)
lower-row d v e h =
    let t = int_div_euclid e (pos (suc d)) in
    let q : IsInTile (pos (suc d)) t e = quotient_is d e in
    let low = q.low in
    let p : pos 0 ≤ℤ (pos (suc d) *ℤ (v +ℤ t)) = not_negative_product (pos (suc d)) (v +ℤ t) (omega (arith, ints)) (omega (arith, ints)) in
    let r = simp expand at p in
    omega (arith, ints)

pub row-upper : (d : ℕ) (v e : ℤ) → pos 0 ≤ℤ ((negsuc d *ℤ v) +ℤ e) → v <ℤ (int_div_euclid e (pos (suc d)) +ℤ pos 1)
row-upper d v e h =
    let t = int_div_euclid e (pos (suc d)) in
    let q : IsInTile (pos (suc d)) t e = quotient_is d e in
    let high = q.high in
    elim (at_most_or_below (t +ℤ pos 1) v) [
      | inr g ↦ g
      | inl g ↦ absurd (
          let p : pos 0 ≤ℤ (pos (suc d) *ℤ (v +ℤ (neg_ℤ t +ℤ negsuc 0))) = not_negative_product (pos (suc d)) (v +ℤ (neg_ℤ t +ℤ negsuc 0)) (omega (arith, ints)) (omega (arith, ints)) in
          let r = simp expand at p in
          omega (arith, ints))
    ]

pub upper-row : (d : ℕ) (v e : ℤ) → v <ℤ (int_div_euclid e (pos (suc d)) +ℤ pos 1) → pos 0 ≤ℤ ((negsuc d *ℤ v) +ℤ e)
upper-row d v e h =
    let t = int_div_euclid e (pos (suc d)) in
    let q : IsInTile (pos (suc d)) t e = quotient_is d e in
    let low = q.low in
    let p : pos 0 ≤ℤ (pos (suc d) *ℤ (t +ℤ neg_ℤ v)) = not_negative_product (pos (suc d)) (t +ℤ neg_ℤ v) (omega (arith, ints)) (omega (arith, ints)) in
    let r = simp expand at p in
    omega (arith, ints)
