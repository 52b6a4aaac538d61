-- How the code's factors make the row of a cancellation.
use Rattle.std.proofs.Common.{◌≡◌, ℕ, ℤ, pos, neg_ℤ, true, false, cond, map, length, List, [], ◌∷◌, set, arith, refl, ap, sym, ◌∙◌}
use Rattle.std.specs.Prelude.{Some, None, unsigned_abs, int_div, int_lt, nat_le}
use Rattle.std.proofs.lemmas.Bool.{cond_both}
use Rattle.std.proofs.lemmas.List.{length-map}
use Rattle.int_rows.specs.Gcd.{gcd, gcd_of}
use Rattle.int_rows.specs.Rows.{coef_at, numbers}
use Rattle.int_rows.specs.Elimination.{sums_small, combined, combination, first_past, canceled, joined, made_small, outcome, reduced}
use Rattle.std.proofs.Math.ListN.{length-set}
use Rattle.int_rows.specs.Systems.{IsRowOf, replaced}
use Rattle.int_rows.specs.declared.row.Aff.{Aff}
use Rattle.int_rows.specs.declared.row.Row.{Row}
use Rattle.int_rows.proofs.RowsLeft.{past-none, past-some, combination-row}

module _ (x : ℕ) (r s : Row) (m n : ℤ) (em : m ≡ int_div (pos (unsigned_abs (coef_at x s))) (pos (gcd (unsigned_abs (coef_at x r)) (unsigned_abs (coef_at x s)))))
    (en : n ≡ int_div (cond (int_lt (coef_at x s) (pos 0)) (coef_at x r) (neg_ℤ (coef_at x r))) (pos (gcd (unsigned_abs (coef_at x r)) (unsigned_abs (coef_at x s))))) where
  canceled-is : canceled x r s ≡ joined m r n s
  unfolding canceled
  canceled-is = λ i. joined (sym em i) r (sym en i) s

  pub canceled-made : (form : Aff) (left : Row) → (first_past m r.form n s.form ≡ None) × (form ≡ combination m r.form n s.form) → left ≡ reduced (record { equal = r.equal; form = form }) → (made_small (canceled x r s) ≡ true) × (left ≡ outcome (canceled x r s))
  unfolding made_small outcome
  canceled-made form left e f =
      (ap made_small canceled-is ∙ past-none (sums_small m (numbers r.form) n (numbers s.form)) 0 e.0, f ∙ ap (λ (h : Aff). reduced (record { equal = r.equal; form = h })) e.1 ∙ sym (ap outcome canceled-is))

  pub canceled-not : (at : ℕ) → first_past m r.form n s.form ≡ Some at → made_small (canceled x r s) ≡ false
  unfolding made_small
  canceled-not at e = ap made_small canceled-is ∙ past-some (sums_small m (numbers r.form) n (numbers s.form)) 0 at e

-- ---- the width of what is made
length-combined : (m : ℤ) (xs : List ℤ) (n : ℤ) (ys : List ℤ) → length xs ≡ length ys → length (combined m xs n ys) ≡ length ys
length-combined m [] n [] e = refl
length-combined m [] n (y ∷ ys) e = absurd (omega arith)
length-combined m (x ∷ xs) n [] e = absurd (omega arith)
length-combined m (x ∷ xs) n (y ∷ ys) e = let h = length-combined m xs n ys (omega arith) in omega arith

reduced-width : (r : Row) → length (reduced r).form.coefs ≡ length r.form.coefs
unfolding reduced
reduced-width r =
    let g = gcd_of (numbers r.form) in
    cond_both (nat_le g 0) r (record { equal = r.equal; form = record { coefs = map (λ z. int_div z (pos g)) r.form.coefs; constant = int_div r.form.constant (pos g) } })
    (λ (s : Row). length s.form.coefs ≡ length r.form.coefs) (λ _. refl) (λ _. length-map r.form.coefs (λ z. int_div z (pos g)))

pub canceled-width : (v x : ℕ) (r s : Row) → IsRowOf v r → IsRowOf v s → made_small (canceled x r s) ≡ true → length (outcome (canceled x r s)).form.coefs ≡ v
unfolding canceled outcome made_small
canceled-width v x r s h k e =
    let g = pos (gcd (unsigned_abs (coef_at x r)) (unsigned_abs (coef_at x s))) in
    let m = int_div (pos (unsigned_abs (coef_at x s))) g in
    let n = int_div (cond (int_lt (coef_at x s) (pos 0)) (coef_at x r) (neg_ℤ (coef_at x r))) g in
    reduced-width (record { equal = r.equal; form = combination m r.form n s.form }) ∙ (combination-row v r.equal m r.form n s.form h.width k.width e).width

-- ---- the width of a row with a form in place of a variable
pub replaced-width : (v x : ℕ) (by : Aff) (r : Row) → length by.coefs ≡ v → length r.form.coefs ≡ v → length (replaced x by r).form.coefs ≡ v
replaced-width v x by r w h = length-combined (pos 1) (set r.form.coefs x (pos 0)) (coef_at x r) by.coefs (length-set r.form.coefs x (pos 0) ∙ h ∙ sym w) ∙ w
