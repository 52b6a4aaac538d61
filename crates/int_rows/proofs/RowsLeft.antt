-- The rows that an elimination or a substitution leaves are rows over the same variables, with numbers within the limit.
use Rattle.std.proofs.Common.{◌≡◌, ℕ, suc, ◌≤◌, ℤ, pos, negsuc, ◌+ℤ◌, ◌*ℤ◌, Bool, true, false, not, ◌&&◌, cond, List, [], ◌∷◌, ◌++◌, map, length, arith, refl, ap, sym, ◌∙◌, subst, fold, rules}
use Rattle.std.specs.Prelude.{Option, Some, None, unsigned_abs, int_div, int_lt, nat_le, filter, flat_map, remove, slice_get}
use Rattle.std.specs.List.{AllByRecursion, list_all, position_from}
use Rattle.std.proofs.lemmas.Bool.{cond_both, and_parts, and_from, leb-true, le-leb}
use Rattle.std.proofs.Math.ListN.{length-set}
use Rattle.int_rows.specs.Gcd.{gcd_of}
use Rattle.int_rows.specs.Rows.{coef_at, numbers}
use Rattle.int_rows.specs.Elimination.{is_small, sum_small, sums_small, combined, combination, Made, stays, joined, canceled, reduced, outcome, made_small, holds_not, is_above, is_below, substituted, paired, made_with, made, is_alike, tightest, absorbed, merged}
use Rattle.int_rows.specs.Systems.{IsRowOf, without, replaced, replaced_past, first_of}
use Rattle.int_rows.specs.declared.row.Aff.{Aff}
use Rattle.int_rows.specs.declared.row.Row.{Row}
use Rattle.chill_base.proofs.Each.{each-append, each-remove, each-filter, each-map, each-flat_map, each-get, each-both}

-- ---- all numbers are within the limit where none is the first past it
past-none_by : (b : Bool) (i : ℕ) (o : Option ℕ) → cond (not b) (Some i) o ≡ None → (b ≡ true) × (o ≡ None)
past-none_by true i o e = (refl, e)
past-none_by false i o e = absurd cc

pub past-none : (bs : List Bool) (i : ℕ) → position_from not i bs ≡ None → list_all (λ b. b) bs ≡ true
past-none [] i e = refl
past-none (b ∷ bs) i e = let h = past-none_by b i _ e in and_from _ _ h.0 (past-none bs (suc i) (subst (λ (k : ℕ). position_from not k bs ≡ None) (omega arith) h.1))

pub past-some : (bs : List Bool) (i at : ℕ) → position_from not i bs ≡ Some at → list_all (λ b. b) bs ≡ false
past-some [] i at e = absurd cc
past-some (true ∷ bs) i at e = past-some bs (suc i) at (subst (λ (k : ℕ). position_from not k bs ≡ Some at) (omega arith) e)
past-some (false ∷ bs) i at e = refl

-- ---- combinations
sums-combined_small : (m n : ℤ) (xs ys : List ℤ) (k l : ℤ) → length xs ≡ length ys → list_all (λ b. b) (sums_small m (xs ++ k ∷ []) n (ys ++ l ∷ [])) ≡ true → list_all is_small (combined m xs n ys ++ (m *ℤ k +ℤ n *ℤ l) ∷ []) ≡ true
sums-combined_small m n [] [] k l e h = let p = and_parts (sum_small m k n l) _ h in and_from _ _ (and_parts (is_small (m *ℤ k) && is_small (n *ℤ l)) _ p.0).1 refl
sums-combined_small m n [] (y ∷ ys) k l e h = absurd (omega arith)
sums-combined_small m n (x ∷ xs) [] k l e h = absurd (omega arith)
sums-combined_small m n (x ∷ xs) (y ∷ ys) k l e h =
    let p = and_parts (sum_small m x n y) _ h in
    and_from _ _ (and_parts (is_small (m *ℤ x) && is_small (n *ℤ y)) _ p.0).1 (sums-combined_small m n xs ys k l (omega arith) p.1)

pub combination-small : (m : ℤ) (f : Aff) (n : ℤ) (g : Aff) → length f.coefs ≡ length g.coefs → list_all (λ b. b) (sums_small m (numbers f) n (numbers g)) ≡ true → list_all is_small (numbers (combination m f n g)) ≡ true
combination-small m f n g w h = sums-combined_small m n f.coefs g.coefs f.constant g.constant w h

length-combined : (m : ℤ) (xs : List ℤ) (n : ℤ) (ys : List ℤ) → length xs ≡ length ys → length (combined m xs n ys) ≡ length ys
length-combined m [] n [] e = refl
length-combined m [] n (y ∷ ys) e = absurd (omega arith)
length-combined m (x ∷ xs) n [] e = absurd (omega arith)
length-combined m (x ∷ xs) n (y ∷ ys) e = let h = length-combined m xs n ys (omega arith) in omega arith

pub combination-row : (v : ℕ) (e : Bool) (m : ℤ) (f : Aff) (n : ℤ) (g : Aff) → length f.coefs ≡ v → length g.coefs ≡ v → list_all (λ b. b) (sums_small m (numbers f) n (numbers g)) ≡ true → IsRowOf v (record { equal = e; form = combination m f n g })
combination-row v e m f n g w w' h = record { width = length-combined m f.coefs n g.coefs (w ∙ sym w') ∙ w'; small = combination-small m f n g (w ∙ sym w') h }

-- ---- division and the lesser constant
quotient-le : (z : ℤ) (g : ℕ) → unsigned_abs (int_div z (pos g)) ≤ unsigned_abs z
quotient-le (pos a) g = search rules
quotient-le (negsuc a) g = search rules

quotient-small : (z : ℤ) (g : ℕ) → is_small z ≡ true → is_small (int_div z (pos g)) ≡ true
quotient-small z g h = le-leb _ _ (let k = leb-true _ _ h in let l = quotient-le z g in omega arith)

divided-small : (xs : List ℤ) (k : ℤ) (g : ℕ) → list_all is_small (xs ++ k ∷ []) ≡ true → list_all is_small (map (λ z. int_div z (pos g)) xs ++ int_div k (pos g) ∷ []) ≡ true
divided-small [] k g h = let p = and_parts (is_small k) _ h in and_from _ _ (quotient-small k g p.0) refl
divided-small (x ∷ xs) k g h = let p = and_parts (is_small x) _ h in and_from _ _ (quotient-small x g p.0) (divided-small xs k g p.1)

length-divided : (xs : List ℤ) (g : ℕ) → length (map (λ z. int_div z (pos g)) xs) ≡ length xs
length-divided [] g = refl
length-divided (x ∷ xs) g = ap suc (length-divided xs g)

reduced-row : (v : ℕ) (r : Row) → IsRowOf v r → IsRowOf v (reduced r)
unfolding reduced
reduced-row v r h =
    let g = gcd_of (numbers r.form) in
    cond_both (nat_le g 0) r (record { equal = r.equal; form = record { coefs = map (λ z. int_div z (pos g)) r.form.coefs; constant = int_div r.form.constant (pos g) } }) (IsRowOf v) (λ e. h)
    (λ e. record { width = length-divided r.form.coefs g ∙ h.width; small = divided-small r.form.coefs r.form.constant g h.small })

last-small : (xs : List ℤ) (k l : ℤ) → list_all is_small (xs ++ k ∷ []) ≡ true → is_small l ≡ true → list_all is_small (xs ++ l ∷ []) ≡ true
last-small [] k l h e = and_from _ _ e refl
last-small (x ∷ xs) k l h e = let p = and_parts (is_small x) _ h in and_from _ _ p.0 (last-small xs k l p.1 e)

pub small-last : (xs : List ℤ) (k : ℤ) → list_all is_small (xs ++ k ∷ []) ≡ true → is_small k ≡ true
small-last [] k h = (and_parts (is_small k) _ h).0
small-last (x ∷ xs) k h = small-last xs k (and_parts (is_small x) _ h).1

tightest-row : (v : ℕ) (r s : Row) → IsRowOf v r → IsRowOf v s → IsRowOf v (tightest r s)
tightest-row v r s h k = record {
  width = h.width;
  small = last-small r.form.coefs r.form.constant _ h.small
      (cond_both (int_lt s.form.constant r.form.constant) s.form.constant r.form.constant (λ (z : ℤ). is_small z ≡ true) (λ _. small-last s.form.coefs s.form.constant k.small) (λ _. small-last r.form.coefs r.form.constant h.small));
}

absorbed-rows : (v : ℕ) (rows : List Row) (s : Row) → AllByRecursion (IsRowOf v) rows → IsRowOf v s → AllByRecursion (IsRowOf v) (absorbed rows s)
absorbed-rows v [] s h k = (k, tt)
absorbed-rows v (r ∷ rows) s h k =
    cond_both (is_alike r s) (tightest r s ∷ rows) (r ∷ absorbed rows s) (AllByRecursion (IsRowOf v)) (λ _. (tightest-row v r s h.0 k, h.1)) (λ _. (h.0, absorbed-rows v rows s h.1 k))

merge-rows : (v : ℕ) (acc rows : List Row) → AllByRecursion (IsRowOf v) acc → AllByRecursion (IsRowOf v) rows → AllByRecursion (IsRowOf v) (fold absorbed acc rows)
merge-rows v acc [] h k = h
merge-rows v acc (r ∷ rows) h k = merge-rows v (absorbed acc r) rows (absorbed-rows v acc r h k.0) k.1

merged-rows : (v : ℕ) (rows : List Row) → AllByRecursion (IsRowOf v) rows → AllByRecursion (IsRowOf v) (merged rows)
unfolding merged
merged-rows v rows h = merge-rows v [] rows tt h

-- ---- the steps of an elimination
abbrev IsStepOf : ℕ → Made → Type 0
IsStepOf v (stays r) = IsRowOf v r
IsStepOf v (joined m r n s) = IsRowOf v r × IsRowOf v s

outcome-row : (v : ℕ) (s : Made) → IsStepOf v s → made_small s ≡ true → IsRowOf v (outcome s)
unfolding outcome made_small
outcome-row v (stays r) h e = h
outcome-row v (joined m r n s) h e = reduced-row v (record { equal = r.equal; form = combination m r.form n s.form }) (combination-row v r.equal m r.form n s.form h.0.width h.1.width e)

canceled-step : (v x : ℕ) (r s : Row) → IsRowOf v r → IsRowOf v s → IsStepOf v (canceled x r s)
unfolding canceled
canceled-step v x r s h k = (h, k)

paired-steps : (v x : ℕ) (rows : List Row) → AllByRecursion (IsRowOf v) rows → AllByRecursion (IsStepOf v) (paired x rows)
unfolding paired
paired-steps v x rows h =
    let R : Row → Type 0 = IsRowOf v in
    each-append (IsStepOf v) (map stays (filter (holds_not x) rows)) (flat_map (λ r. map (canceled x r) (filter (is_below x) rows)) (filter (is_above x) rows))
    (each-map (λ r. R r × (holds_not x r ≡ true)) (IsStepOf v) stays (λ r w. w.0) _ (each-filter R (holds_not x) rows h))
    (each-flat_map (λ r. R r × (is_above x r ≡ true)) (IsStepOf v) (λ r. map (canceled x r) (filter (is_below x) rows))
    (λ r w. each-map (λ s. R s × (is_below x s ≡ true)) (IsStepOf v) (canceled x r) (λ s u. canceled-step v x r s w.0 u.0) _ (each-filter R (is_below x) rows h)) _ (each-filter R (is_above x) rows h))

made_with-steps : (v x : ℕ) (rows : List Row) (i : ℕ) (o : Option Row) → slice_get rows i ≡ o → AllByRecursion (IsRowOf v) rows → AllByRecursion (IsStepOf v) (made_with x rows i o)
made_with-steps v x rows i (Some e) is h =
    let R : Row → Type 0 = IsRowOf v in
    each-map R (IsStepOf v) (substituted x e)
    (λ r k. cond_both (holds_not x r) (stays r) (canceled x r e) (IsStepOf v) (λ _. k) (λ _. canceled-step v x r e k (each-get R rows i e h is)))
    (remove rows i) (each-remove R rows i h)
made_with-steps v x rows i None is h = paired-steps v x rows h

each-test : {A : Type 0} (test : A → Bool) (xs : List A) → list_all test xs ≡ true → AllByRecursion (λ x. test x ≡ true) xs
each-test test [] e = tt
each-test test (x ∷ xs) e = let p = and_parts (test x) _ e in (p.0, each-test test xs p.1)

pub outcomes-rows : (v x : ℕ) (rows : List Row) → AllByRecursion (IsRowOf v) rows → list_all made_small (made x rows) ≡ true → AllByRecursion (IsRowOf v) (merged (map outcome (made x rows)))
unfolding made
outcomes-rows v x rows h e =
    merged-rows v (map outcome (made x rows))
    (each-map (λ s. IsStepOf v s × (made_small s ≡ true)) (IsRowOf v) outcome (λ s w. outcome-row v s w.0 w.1) (made x rows)
    (each-both (IsStepOf v) (λ s. made_small s ≡ true) (made x rows) (made_with-steps v x rows _ _ refl h) (each-test made_small (made x rows) e)))

-- ---- substitution
first_of-none_by : (o : Option ℕ) (os : List (Option ℕ)) → first_of (o ∷ os) ≡ None → (o ≡ None) × (first_of os ≡ None)
first_of-none_by (Some i) os e = absurd cc
first_of-none_by None os e = (refl, e)

pub replaced-row : (v x : ℕ) (by : Aff) (r : Row) → length by.coefs ≡ v → IsRowOf v r → replaced_past x by r ≡ None → IsRowOf v (replaced x by r)
replaced-row v x by r w h e =
    combination-row v r.equal (pos 1) (without x r.form) (coef_at x r) by (length-set r.form.coefs x (pos 0) ∙ h.width) w
    (past-none (sums_small (pos 1) (numbers (without x r.form)) (coef_at x r) (numbers by)) 0 e)

pub replaced-each : (v x : ℕ) (by : Aff) (rows : List Row) → length by.coefs ≡ v → AllByRecursion (IsRowOf v) rows → first_of (map (replaced_past x by) rows) ≡ None → AllByRecursion (IsRowOf v) (map (replaced x by) rows)
replaced-each v x by [] w h e = tt
replaced-each v x by (r ∷ rows) w h e =
    let p = first_of-none_by (replaced_past x by r) (map (replaced_past x by) rows) e in
    (replaced-row v x by r w h.0 p.0, replaced-each v x by rows w h.1 p.1)
