-- Rows that are direct at a level hold exactly where its value is within their bounds.
use Rattle.std.proofs.Common.{◌≡◌, inl, inr, ℕ, zero, suc, ◌+◌, ◌-◌, ◌<◌, List, [], ◌∷◌, ◌++◌, length, refl, sym, ◌∙◌, ap, subst, arith, ℤ, pos, negsuc, ◌+ℤ◌, ◌*ℤ◌, neg_ℤ, ◌≤ℤ◌, ◌<ℤ◌, Bool, true, false, append_assoc, length-append}
use Rattle.std.specs.Int.{int_div_euclid}
use Rattle.std.proofs.lemmas.Int.{ints}
use Rattle.chill_base.proofs.Ring.{neg_times}
use Rattle.int_rows.specs.declared.row.Aff.{Aff}
use Rattle.int_rows.specs.declared.row.Row.{Row}
use Rattle.int_rows.specs.Rows.{Holds}
use Rattle.nest_tree.specs.declared.kernel.Nest.{Nest}
use Rattle.nest_tree.specs.Lists.{IsIn}
use Rattle.nest_tree.specs.Forms.{value, coef, zeros, MeetsRow}
use Rattle.nest_tree.specs.Terms.{Input, term_values, IsCut, IsDirect}
use Rattle.nest_tree.specs.Kernels.{point}
use Rattle.nest_tree.specs.Loops.{Levels}
use Rattle.nest_laws.proofs.Lists.{in_append, in_append-left, in_append-right}
use Rattle.nest_laws.proofs.Points.{coef-before, coef-behind}
use Rattle.nest_laws.proofs.Direct.{direct_value, row-lower, lower-row, row-upper, upper-row}
use Rattle.scan_laws.specs.Bounds.{lowers_of, uppers_of, lowers, uppers}
use Rattle.scan_laws.specs.Rows.{depth, cut, rest, next}
use Rattle.scan_laws.specs.Laws.{AreAtMost, AreAbove, DirectRowsAreBounds}

-- ---- one row
opposite : (d : ℕ) (v : ℤ) → negsuc d *ℤ v ≡ neg_ℤ (pos (suc d) *ℤ v)
opposite d v = neg_times (pos (suc d)) v

at_most-one : (n v : ℤ) → n ≤ℤ v → AreAtMost (n ∷ []) v
at_most-one n v h k (inl e) = subst (λ (z : ℤ). z ≤ℤ v) (sym e) h
at_most-one n v h k (inr a) = absurd a

above-one : (n v : ℤ) → v <ℤ n → AreAbove (n ∷ []) v
above-one n v h k (inl e) = subst (λ (z : ℤ). v <ℤ z) (sym e) h
above-one n v h k (inr a) = absurd a

row_bounds : (equal : Bool) (a v e : ℤ) → (a ≡ pos 0 → ⊥) → Holds equal ((a *ℤ v) +ℤ e) → AreAtMost (lowers_of equal a e) v × AreAbove (uppers_of equal a e) v
row_bounds equal (pos zero) v e n h = absurd (n refl)
row_bounds false (pos (suc d)) v e n h = (at_most-one (neg_ℤ (int_div_euclid e (pos (suc d)))) v (row-lower d v e h), λ k a. absurd a)
row_bounds true (pos (suc d)) v e n h =
    let o = opposite d v in (
      at_most-one (neg_ℤ (int_div_euclid e (pos (suc d)))) v (row-lower d v e (omega (arith, ints))),
      above-one (int_div_euclid (neg_ℤ e) (pos (suc d)) +ℤ pos 1) v (row-upper d v (neg_ℤ e) (omega (arith, ints))),
    )
row_bounds false (negsuc d) v e n h = (λ k a. absurd a, above-one (int_div_euclid e (pos (suc d)) +ℤ pos 1) v (row-upper d v e h))
row_bounds true (negsuc d) v e n h =
    let o = opposite d v in (
      at_most-one (neg_ℤ (int_div_euclid (neg_ℤ e) (pos (suc d)))) v (row-lower d v (neg_ℤ e) (omega (arith, ints))),
      above-one (int_div_euclid e (pos (suc d)) +ℤ pos 1) v (row-upper d v e (omega (arith, ints))),
    )

bounds_row : (equal : Bool) (a v e : ℤ) → (a ≡ pos 0 → ⊥) → AreAtMost (lowers_of equal a e) v → AreAbove (uppers_of equal a e) v → Holds equal ((a *ℤ v) +ℤ e)
bounds_row equal (pos zero) v e n l u = absurd (n refl)
bounds_row false (pos (suc d)) v e n l u = lower-row d v e (l (neg_ℤ (int_div_euclid e (pos (suc d)))) (inl refl))
bounds_row true (pos (suc d)) v e n l u =
    let o = opposite d v in
    let p = lower-row d v e (l (neg_ℤ (int_div_euclid e (pos (suc d)))) (inl refl)) in
    let q = upper-row d v (neg_ℤ e) (u (int_div_euclid (neg_ℤ e) (pos (suc d)) +ℤ pos 1) (inl refl)) in
    omega (arith, ints)
bounds_row false (negsuc d) v e n l u = upper-row d v e (u (int_div_euclid e (pos (suc d)) +ℤ pos 1) (inl refl))
bounds_row true (negsuc d) v e n l u =
    let o = opposite d v in
    let p = lower-row d v (neg_ℤ e) (l (neg_ℤ (int_div_euclid (neg_ℤ e) (pos (suc d)))) (inl refl)) in
    let q = upper-row d v e (u (int_div_euclid e (pos (suc d)) +ℤ pos 1) (inl refl)) in
    omega (arith, ints)

-- ---- the point with this and all later levels cut off
length-zeros : (k : ℕ) → length (zeros k []) ≡ k
length-zeros zero = refl
length-zeros (suc k) = ap suc (length-zeros k)

coef-next : (e xs : List ℤ) → coef (length e) (e ++ xs) ≡ coef zero xs
coef-next [] xs = refl
coef-next (a ∷ e) xs = coef-next e xs

first_zero : (k : ℕ) → coef zero (zeros k []) ≡ pos 0
first_zero zero = refl
first_zero (suc k) = refl

module _ (i : Input) (n : Nest) (e : Levels) (v : ℤ) (vs : Levels) (full : length (e ++ v ∷ vs) ≡ depth n) where
  abbrev here : List ℤ
  here = i.params ++ (e ++ v ∷ vs)

  long : length here ≡ length i.params + depth n
  long = length-append i.params (e ++ v ∷ vs) ∙ ap (λ (k : ℕ). length i.params + k) full

  deep : length e + suc (length vs) ≡ depth n
  deep = sym (length-append e (v ∷ vs)) ∙ full

  level : coef (next i e) here ≡ v
  level = coef-behind i.params (e ++ v ∷ vs) (length e) ∙ coef-next e (v ∷ vs)

  cut_is : IsCut (next i e) here (cut i n e)
  cut_is =
      let zs : List ℤ = zeros (depth n - length e) [] in
      let z : length zs ≡ depth n - length e = length-zeros (depth n - length e) in
      let a : length (cut i n e) ≡ length i.params + length (e ++ zs) = length-append i.params (e ++ zs) in
      let b : length (e ++ zs) ≡ length e + length zs = length-append e zs in
      let l = long in
      let d = deep in record {
        same_length = omega arith;
        is_variable = omega arith;
        before = λ j h. front j h zs;
        zero_at = coef-behind i.params (e ++ zs) (length e) ∙ coef-next e zs ∙ first_zero (depth n - length e);
      }
    where
      front : (j : ℕ) → j < next i e → (zs : List ℤ) → coef j (i.params ++ (e ++ v ∷ vs)) ≡ coef j (i.params ++ (e ++ zs))
      front j h zs =
          let l : length (i.params ++ e) ≡ length i.params + length e = length-append i.params e in
          let k : j < length (i.params ++ e) = omega arith in
          ap (coef j) (sym (append_assoc i.params e (v ∷ vs))) ∙ coef-before (i.params ++ e) (v ∷ vs) j k ∙ sym (coef-before (i.params ++ e) zs j k) ∙ ap (coef j) (append_assoc i.params e zs)

  row_value : (f : Aff) → IsDirect (length i.params + depth n) (next i e) n.terms f → value (point i n (e ++ v ∷ vs)) f ≡ (coef (next i e) f.coefs *ℤ v) +ℤ rest i n e f
  row_value f d =
      ap (λ (q : List ℤ). value q f) (sym (append_assoc i.params (e ++ v ∷ vs) (term_values i n.terms here)))
      ∙ direct_value i n.terms here (cut i n e) (next i e) cut_is f (subst (λ (w : ℕ). IsDirect w (next i e) n.terms f) (sym long) d)
      ∙ ap (λ (k : ℤ). (coef (next i e) f.coefs *ℤ k) +ℤ rest i n e f) level

  pub hold_bounds : (rows : List Row) → ((r : Row) → IsIn r rows → IsDirect (length i.params + depth n) (next i e) n.terms r.form) → ((r : Row) → IsIn r rows → MeetsRow (point i n (e ++ v ∷ vs)) r)
      → AreAtMost (lowers (next i e) (rest i n e) rows) v × AreAbove (uppers (next i e) (rest i n e) rows) v
  hold_bounds [] d h = (λ k a. absurd a, λ k a. absurd a)
  hold_bounds (r ∷ rows) d h =
      let a : ℤ = coef (next i e) (r.form).coefs in
      let w : ℤ = rest i n e r.form in
      let b = row_bounds r.equal a v w (d r (inl refl)).named (subst (Holds r.equal) (row_value r.form (d r (inl refl))) (h r (inl refl))) in
      let c = hold_bounds rows (λ s k. d s (inr k)) (λ s k. h s (inr k)) in (
        λ k m. elim (in_append k (lowers_of r.equal a w) (lowers (next i e) (rest i n e) rows) m) [ inl x ↦ b.0 k x | inr x ↦ c.0 k x ],
        λ k m. elim (in_append k (uppers_of r.equal a w) (uppers (next i e) (rest i n e) rows) m) [ inl x ↦ b.1 k x | inr x ↦ c.1 k x ],
      )

  pub bounds_hold : (rows : List Row) → ((r : Row) → IsIn r rows → IsDirect (length i.params + depth n) (next i e) n.terms r.form) → AreAtMost (lowers (next i e) (rest i n e) rows) v → AreAbove (uppers (next i e) (rest i n e) rows) v
      → (r : Row) → IsIn r rows → MeetsRow (point i n (e ++ v ∷ vs)) r
  bounds_hold [] d l u r a = absurd a
  bounds_hold (s ∷ rows) d l u r (inl q) =
      let a : ℤ = coef (next i e) (s.form).coefs in
      let w : ℤ = rest i n e s.form in
      let k = bounds_row s.equal a v w (d s (inl refl)).named (λ k m. l k (in_append-left k (lowers_of s.equal a w) (lowers (next i e) (rest i n e) rows) m)) (λ k m. u k (in_append-left k (uppers_of s.equal a w) (uppers (next i e) (rest i n e) rows) m)) in
      subst (λ (x : Row). MeetsRow (point i n (e ++ v ∷ vs)) x) (sym q) (subst (Holds s.equal) (sym (row_value s.form (d s (inl refl)))) k)
  bounds_hold (s ∷ rows) d l u r (inr m) =
      let a : ℤ = coef (next i e) (s.form).coefs in
      let w : ℤ = rest i n e s.form in
      bounds_hold rows (λ t k. d t (inr k)) (λ k x. l k (in_append-right k (lowers_of s.equal a w) (lowers (next i e) (rest i n e) rows) x)) (λ k x. u k (in_append-right k (uppers_of s.equal a w) (uppers (next i e) (rest i n e) rows) x)) r m

pub direct_rows : DirectRowsAreBounds
direct_rows i n rows e v vs full d = (λ h. hold_bounds i n e v vs full rows d h, λ b. bounds_hold i n e v vs full rows d b.0 b.1)
