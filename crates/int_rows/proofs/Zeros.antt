-- An eliminated variable has the coefficient 0 in each row that is left.
use Rattle.std.proofs.Common.{◌≡◌, ℕ, zero, suc, ◌<◌, ◌≤◌, ℤ, pos, negsuc, ◌+ℤ◌, ◌*ℤ◌, neg_ℤ, true, not, List, [], ◌∷◌, map, get_or, inl, inr, arith, refl, sym, ◌∙◌, subst, fold}
use Rattle.std.specs.Prelude.{unsigned_abs, int_div, int_lt, nat_le, filter, flat_map, remove, slice_get, Option, Some, None, Ok}
use Rattle.std.specs.List.{AllByRecursion, position_or_len}
use Rattle.std.specs.Int.{◌∣◌}
use Rattle.std.proofs.lemmas.Int.{ints}
use Rattle.std.proofs.lemmas.Bool.{cond_both, and_parts, cases_lt, not-true}
use lib.IntN.{*ℤ-zero}
use Rattle.int_rows.specs.Gcd.{gcd, gcd_of}
use Rattle.int_rows.specs.Rows.{coef_at, numbers}
use Rattle.int_rows.specs.Elimination.{combined, combination, Made, stays, canceled, reduced, outcome, holds_not, is_above, is_below, is_equality_with, substituted, paired, made_with, made, is_alike, tightest, absorbed, merged, elimination}
use Rattle.int_rows.specs.declared.row.Row.{Row}
use Rattle.chill_base.proofs.Ring.{expand, sum_times, zero_from_product}
use Rattle.chill_base.proofs.Each.{each-append, each-remove, each-filter, each-map, each-flat_map, each-get, found-passes}
use Rattle.int_rows.proofs.GcdLaws.{gcd_is, gcd-some, size-some}
use Rattle.int_rows.proofs.FirstLaw.{int_eq-true, left-is}
use Rattle.int_rows.proofs.Back.{against, size-against, factor-back, int_eq-no}

-- the coefficient of each variable from position k on is 0
abbrev pub ZeroFrom : ℕ → Row → Type 0
ZeroFrom k r = (i : ℕ) → k ≤ i → coef_at i r ≡ pos 0

get-combined : (m : ℤ) (xs : List ℤ) (n : ℤ) (ys : List ℤ) (i : ℕ) → get_or (combined m xs n ys) i (pos 0) ≡ m *ℤ get_or xs i (pos 0) +ℤ n *ℤ get_or ys i (pos 0)
get-combined m [] n [] i = rw (*ℤ-zero m, *ℤ-zero n) refl
get-combined m [] n (y ∷ ys) zero = rw (*ℤ-zero m) (omega (arith, ints))
get-combined m [] n (y ∷ ys) (suc i) = get-combined m [] n ys i
get-combined m (x ∷ xs) n [] zero = rw (*ℤ-zero n) (omega (arith, ints))
get-combined m (x ∷ xs) n [] (suc i) = get-combined m xs n [] i
get-combined m (x ∷ xs) n (y ∷ ys) zero = refl
get-combined m (x ∷ xs) n (y ∷ ys) (suc i) = get-combined m xs n ys i

get-divided : (g : ℕ) (xs : List ℤ) (i : ℕ) → get_or xs i (pos 0) ≡ pos 0 → get_or (map (λ z. int_div z (pos g)) xs) i (pos 0) ≡ pos 0
get-divided g [] i h = refl
get-divided g (x ∷ xs) zero h = rw h (omega (arith, ints))
get-divided g (x ∷ xs) (suc i) h = get-divided g xs i h

reduced-zero : (r : Row) (i : ℕ) → coef_at i r ≡ pos 0 → coef_at i (reduced r) ≡ pos 0
unfolding reduced
reduced-zero r i h = cond_both (nat_le (gcd_of (numbers r.form)) 0) r _ (λ (s : Row). coef_at i s ≡ pos 0) (λ _. h) (λ _. get-divided (gcd_of (numbers r.form)) r.form.coefs i h)

-- |c| * a - sign(c) * a * c = 0
cancels : (c a : ℤ) → pos (unsigned_abs c) *ℤ a +ℤ against c a *ℤ c ≡ pos 0
cancels c a = split c a where
  split : (c a : ℤ) → pos (unsigned_abs c) *ℤ a +ℤ against c a *ℤ c ≡ pos 0
  split (pos n) a = rw (against-is n a) (simp expand (omega (arith, ints))) where
    against-is : (n : ℕ) (a : ℤ) → against (pos n) a ≡ neg_ℤ a
    against-is n a = cond_both (int_lt (pos n) (pos 0)) a (neg_ℤ a) (λ (z : ℤ). z ≡ neg_ℤ a) (λ e. absurd (grind (arith, ints))) (λ _. refl)
  split (negsuc n) a = omega (arith, ints)

canceled-zero : (x : ℕ) (r s : Row) → (coef_at x s ≡ pos 0 → ⊥) → ZeroFrom (suc x) r → ZeroFrom (suc x) s → ZeroFrom x (outcome (canceled x r s))
unfolding outcome canceled
canceled-zero x r s o zr zs i h =
    let a = coef_at x r in
    let c = coef_at x s in
    let g = gcd (unsigned_abs a) (unsigned_abs c) in
    let is = gcd_is (unsigned_abs a) (unsigned_abs c) in
    let m = int_div (pos (unsigned_abs c)) (pos g) in
    let n = int_div (against c a) (pos g) in
    let here : m *ℤ a +ℤ n *ℤ c ≡ pos 0 =
    zero_from_product (pos g) _ (let b : 0 < g = gcd-some (unsigned_abs a) (unsigned_abs c) (size-some c o) in omega (arith, ints))
    (sum_times _ _ (pos g) ∙ (λ j. factor-back (pos (unsigned_abs c)) g is.1 a j +ℤ factor-back (against c a) g (subst (λ (k : ℕ). g ∣ k) (sym (size-against c a)) is.0) c j) ∙ cancels c a) in
    reduced-zero (record { equal = r.equal; form = combination m r.form n s.form }) i
    (get-combined m r.form.coefs n s.form.coefs i ∙
    elim (cases_lt x i) [
      | inl b ↦ rw (zr i (omega arith), zs i (omega arith), *ℤ-zero m, *ℤ-zero n) refl
      | inr b ↦ let same : i ≡ x = omega arith in rw same here
    ])

stays-zero : (x : ℕ) (r : Row) → holds_not x r ≡ true → ZeroFrom (suc x) r → ZeroFrom x (outcome (stays r))
unfolding outcome
stays-zero x r e z i h = elim (cases_lt x i) [ inl b ↦ z i (omega arith) | inr b ↦ (let same : i ≡ x = omega arith in rw same (int_eq-true (coef_at x r) (pos 0) e)) ]

absorbed-zero : (k : ℕ) (rows : List Row) (s : Row) → AllByRecursion (ZeroFrom k) rows → ZeroFrom k s → AllByRecursion (ZeroFrom k) (absorbed rows s)
absorbed-zero k [] s h z = (z, tt)
absorbed-zero k (r ∷ rows) s h z =
    cond_both (is_alike r s) (tightest r s ∷ rows) (r ∷ absorbed rows s) (AllByRecursion (ZeroFrom k)) (λ _. (h.0, h.1)) (λ _. (h.0, absorbed-zero k rows s h.1 z))

merge-zero : (k : ℕ) (acc rows : List Row) → AllByRecursion (ZeroFrom k) acc → AllByRecursion (ZeroFrom k) rows → AllByRecursion (ZeroFrom k) (fold absorbed acc rows)
merge-zero k acc [] h z = h
merge-zero k acc (r ∷ rows) h z = merge-zero k (absorbed acc r) rows (absorbed-zero k acc r h z.0) z.1

merged-zero : (k : ℕ) (rows : List Row) → AllByRecursion (ZeroFrom k) rows → AllByRecursion (ZeroFrom k) (merged rows)
unfolding merged
merged-zero k rows z = merge-zero k [] rows tt z

made_with-zero : (x : ℕ) (rows : List Row) (i : ℕ) (o : Option Row) → i ≡ position_or_len (is_equality_with x) rows → slice_get rows i ≡ o → AllByRecursion (ZeroFrom (suc x)) rows → AllByRecursion (λ m. ZeroFrom x (outcome m)) (made_with x rows i o)
unfolding paired
made_with-zero x rows i (Some e) at is h =
    let Z : Row → Type 0 = ZeroFrom (suc x) in
    let holds = and_parts e.equal (not (holds_not x e)) (found-passes (is_equality_with x) rows e (subst (λ (k : ℕ). slice_get rows k ≡ Some e) at is)) in
    let o = int_eq-no (coef_at x e) (not-true _ holds.1) in
    each-map Z (λ m. ZeroFrom x (outcome m)) (substituted x e)
    (λ r z. cond_both (holds_not x r) (stays r) (canceled x r e) (λ (m : Made). ZeroFrom x (outcome m)) (λ t. stays-zero x r t z) (λ t. canceled-zero x r e o z (each-get Z rows i e h is)))
    (remove rows i) (each-remove Z rows i h)
made_with-zero x rows i None at is h = paired-zero x rows h where
  paired-zero : (x : ℕ) (rows : List Row) → AllByRecursion (ZeroFrom (suc x)) rows → AllByRecursion (λ m. ZeroFrom x (outcome m)) (paired x rows)
  paired-zero x rows h =
      let Z : Row → Type 0 = ZeroFrom (suc x) in
      let Q : Made → Type 0 = λ m. ZeroFrom x (outcome m) in
      each-append Q (map stays (filter (holds_not x) rows)) (flat_map (λ r. map (canceled x r) (filter (is_below x) rows)) (filter (is_above x) rows))
      (each-map (λ r. Z r × (holds_not x r ≡ true)) Q stays (λ r w. stays-zero x r w.1 w.0) _ (each-filter Z (holds_not x) rows h))
      (each-flat_map (λ r. Z r × (is_above x r ≡ true)) Q (λ r. map (canceled x r) (filter (is_below x) rows))
      (λ r w. each-map (λ s. Z s × (is_below x s ≡ true)) Q (canceled x r)
      (λ s v. canceled-zero x r s (λ e. (let b = v.1 in absurd (omega (arith, ints)))) w.0 v.0) _ (each-filter Z (is_below x) rows h)) _ (each-filter Z (is_above x) rows h))

-- where the variables behind x have coefficient 0 before, those from x on have it after
pub elimination-zero : (x : ℕ) (rows left : List Row) → elimination x rows ≡ Ok left → AllByRecursion (ZeroFrom (suc x)) rows → AllByRecursion (ZeroFrom x) left
unfolding made
elimination-zero x rows left e h =
    subst (AllByRecursion (ZeroFrom x)) (left-is x rows left e)
    (merged-zero x (map outcome (made x rows)) (each-map (λ m. ZeroFrom x (outcome m)) (ZeroFrom x) outcome (λ m z. z) (made x rows) (made_with-zero x rows _ _ refl refl h)))
