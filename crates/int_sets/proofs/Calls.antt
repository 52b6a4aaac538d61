-- What the calls of a system keep, and what they answer.
use Rattle.std.proofs.Common.{◌≡◌, ℕ, zero, suc, ◌<◌, ◌≤◌, ◌+◌, ◌-◌, ◌^◌, ℤ, pos, negsuc, neg_ℤ, ◌-ℤ◌, length, List, ◌++◌, ◌∷◌, [], Bool, true, false, not, cond, arith, refl, length-append, map, ap, sym, ◌∙◌, subst}
use Rattle.std.specs.Prelude.{Option, Some, None, Result, Ok, Err, nat_le, unsigned_abs, filter, slice_get, slice_index_or}
use Rattle.std.specs.List.{position_from, list_all, list_any}
use Rattle.std.proofs.lemmas.Int.{ints}
use Rattle.std.proofs.lemmas.Bool.{le-ltb, lt-ltb, le-leb, lt-leb, and_parts, and_from}
use Rattle.int_rows.specs.Rows.{coef_at, numbers}
use Rattle.int_rows.specs.Elimination.{is_small, made, made_small, outcome, merged, elimination}
use Rattle.int_rows.specs.Exclusion.{is_plain, is_impossible, when_left, exclusion}
use Rattle.int_rows.specs.Systems.{Rows, IsRowOf, IsSystem, with_rows, pushed, replaced, replaced_past, first_of, substituted, with_left, eliminated, excluded, negation, implied}
use Rattle.int_rows.specs.declared.row.Aff.{Aff}
use Rattle.int_rows.specs.declared.row.Row.{Row}
use Rattle.int_rows.specs.declared.row.Excess.{Excess}
use Rattle.int_rows.specs.declared.row.Excess.TheVariants.{Large, Many}
use Rattle.chill_base.specs.declared.faults.Stop.{Stop}
use Rattle.chill_base.specs.declared.faults.Stop.TheVariants.{Refused, NoMemory}
use Rattle.chill_base.proofs.Each.{each-append, each-filter, each-get, each-weaker}
use Rattle.int_rows.proofs.RowsLeft.{outcomes-rows, replaced-each, small-last}
use Rattle.int_sets.specs.Answers.{Answers, Decides}
use Rattle.int_sets.specs.Gathering.{Keeps, Stops, PassesAt}

-- ---- push
none_here : (t : Bool) (i : ℕ) (o : Option ℕ) → cond (not t) (Some i) o ≡ None → (t ≡ true) × (o ≡ None)
none_here true i o e = (refl, e)
none_here false i o e = absurd cc

pub all_small : (zs : List ℤ) (i : ℕ) → position_from (λ z. not (is_small z)) i zs ≡ None → list_all is_small zs ≡ true
all_small [] i e = refl
all_small (z ∷ zs) i e = let h = none_here (is_small z) i _ e in rw h.0 (all_small zs (i + 1) h.1)

pub IsSystem-push : (v : ℕ) (rows : List Row) (r : Row) → IsSystem (record { vars = v; rows = rows }) → IsRowOf v r → length rows < 4096 → IsSystem (record { vars = v; rows = rows ++ r ∷ [] })
IsSystem-push v rows r h k l = record { each = each-append (IsRowOf v) rows (r ∷ []) h.each (k, tt); count = omega (arith, length-append rows (r ∷ [])) }

pub pushed-large : (s : Rows) (r : Row) (var : ℕ) → Some var ≡ position_from (λ z. not (is_small z)) 0 (numbers r.form) → pushed s r ≡ Err (Large var)
unfolding pushed
pushed-large s r var e = rw (← e) refl

pub pushed-many : (s : Rows) (r : Row) → None ≡ position_from (λ z. not (is_small z)) 0 (numbers r.form) → 4096 ≤ length s.rows → pushed s r ≡ Err (Many s.vars)
unfolding pushed
pushed-many s r e l = rw (← e, le-ltb (length s.rows) 4096 l) refl

pub pushed-row : (s : Rows) (r : Row) → None ≡ position_from (λ z. not (is_small z)) 0 (numbers r.form) → length s.rows < 4096 → pushed s r ≡ Ok (with_rows s (s.rows ++ r ∷ []))
unfolding pushed
pushed-row s r e l = rw (← e, lt-ltb (length s.rows) 4096 l) refl

-- ---- substitution
pub IsSystem-substituted : (v x : ℕ) (by : Aff) (rows : List Row) → IsSystem (record { vars = v; rows = rows }) → length by.coefs ≡ v → first_of (map (replaced_past x by) rows) ≡ None → IsSystem (record { vars = v; rows = map (replaced x by) rows })
IsSystem-substituted v x by rows h w e = record { each = replaced-each v x by rows w h.each e; count = omega (arith, length-map rows, h.count) } where
  length-map : (rows : List Row) → length (map (replaced x by) rows) ≡ length rows
  length-map [] = refl
  length-map (r ∷ rows) = ap suc (length-map rows)

pub substituted-ok : (x : ℕ) (by : Aff) (s : Rows) → first_of (map (replaced_past x by) s.rows) ≡ None → substituted x by s ≡ Ok (with_rows s (map (replaced x by) s.rows))
unfolding substituted
substituted-ok x by s e = rw e refl

pub substituted-stops : (x : ℕ) (by : Aff) (s : Rows) (e : Stop Excess) → PassesAt (first_of (map (replaced_past x by) s.rows)) e → Answers (Err e) s s (substituted x by s)
unfolding substituted
substituted-stops x by s (Refused l) h = (rw (h.1, h.2) refl, refl)
substituted-stops x by s NoMemory h = refl

-- ---- elimination
elimination_of : (x : ℕ) (rows : List Row) (a b : Bool) → list_all made_small (made x rows) ≡ a → nat_le (length (merged (map outcome (made x rows)))) 4096 ≡ b
    → elimination x rows ≡ cond a (cond b (Ok (merged (map outcome (made x rows)))) (Err (Many x))) (Err (Large x))
unfolding elimination
elimination_of x rows a b e f = rw (e, f) refl

pub eliminated-ok : (x : ℕ) (s : Rows) (kept : List Row) → list_all made_small (made x s.rows) ≡ true → Keeps (map outcome (made x s.rows)) false kept → eliminated x s ≡ Ok (with_rows s kept)
unfolding eliminated
eliminated-ok x s kept e k =
    let few : nat_le (length (merged (map outcome (made x s.rows)))) 4096 ≡ true = le-leb _ _ (rw (← k.0) k.1) in
    rw (elimination_of x s.rows true true e few, k.0) refl

pub eliminated-many : (x : ℕ) (s : Rows) (kept : List Row) → list_all made_small (made x s.rows) ≡ true → Keeps (map outcome (made x s.rows)) true kept → eliminated x s ≡ Err (Many x)
unfolding eliminated
eliminated-many x s kept e k =
    let few : nat_le (length (merged (map outcome (made x s.rows)))) 4096 ≡ false = lt-leb _ _ k in
    rw (elimination_of x s.rows true false e few) refl

large_either : (x : ℕ) (rows : List Row) → list_all made_small (made x rows) ≡ false → elimination x rows ≡ Err (Large x)
unfolding elimination
large_either x rows e = rw e refl

pub eliminated-stops : (x : ℕ) (s : Rows) (e : Stop Excess) → Stops x (made x s.rows) e → Answers (Err e) s s (eliminated x s)
unfolding eliminated
eliminated-stops x s (Refused l) h = (rw (large_either x s.rows h.0, h.1) refl, refl)
eliminated-stops x s NoMemory h = refl

pub IsSystem-eliminated : (v x : ℕ) (rows kept : List Row) → IsSystem (record { vars = v; rows = rows }) → list_all made_small (made x rows) ≡ true → Keeps (map outcome (made x rows)) false kept → IsSystem (record { vars = v; rows = kept })
IsSystem-eliminated v x rows kept h e k = record { each = rw k.0 (outcomes-rows v x rows h.each e); count = k.1 }

pub IsSystem-filter : (v : ℕ) (test : Row → Bool) (rows : List Row) → IsSystem (record { vars = v; rows = rows }) → IsSystem (record { vars = v; rows = filter test rows })
IsSystem-filter v test rows h = record {
  each = each-weaker (λ r. IsRowOf v r × (test r ≡ true)) (IsRowOf v) (λ r w. w.0) (filter test rows) (each-filter (IsRowOf v) test rows h.each);
  count = (let k = length-filter rows in let l = h.count in omega arith);
} where
  length-filter : (rows : List Row) → length (filter test rows) ≤ length rows
  length-filter [] = omega arith
  length-filter (r ∷ rows) = by (test r) (length-filter rows) where
    by : (b : Bool) → length (filter test rows) ≤ length rows → length (cond b (r ∷ filter test rows) (filter test rows)) ≤ suc (length rows)
    by true h = omega arith
    by false h = omega arith

-- ---- exclusion
-- so many variables are still there, and what is left to do gives the answer
pub record Excludes (s : Rows) (left : ℕ) (now : Rows) : Type 0 where
  pub same : exclusion left now.rows ≡ excluded s
  pub inside : left ≤ now.vars

pub excludes-start : (s now : Rows) → now ≡ s → Excludes s s.vars now
unfolding excluded
excludes-start s now e = rw e (record { same = refl; inside = omega arith })

exclusion-found : (left : ℕ) (rows : List Row) → list_any is_impossible rows ≡ true → exclusion left rows ≡ Ok true
unfolding exclusion
exclusion-found zero rows e = rw e refl
exclusion-found (suc n) rows e = rw e refl

pub excludes-found : (s : Rows) (left : ℕ) (now : Rows) → list_any is_impossible now.rows ≡ true → Excludes s left now → excluded s ≡ Ok true
excludes-found s left now e h = sym h.same ∙ exclusion-found left now.rows e

pub excludes-end : (s : Rows) (left : ℕ) (now : Rows) → left ≤ 0 → Excludes s left now → excluded s ≡ Ok (list_any is_impossible now.rows)
unfolding exclusion
excludes-end s zero now l h = sym h.same
excludes-end s (suc n) now l h = absurd (omega arith)

next : (n : ℕ) (rows : List Row) → list_any is_impossible rows ≡ false → exclusion (suc n) rows ≡ when_left (elimination n (filter (λ r. not (is_plain r)) rows)) (exclusion n)
unfolding exclusion
next n rows e = rw e refl

ok_rows : (s : Rows) (o : Result (List Row) Excess) (new : Rows) → with_left s o ≡ Ok new → (o ≡ Ok new.rows) × (s.vars ≡ new.vars)
ok_rows s (Ok rows) new e = let k : with_rows s rows ≡ new = cc in (ap (λ (t : Rows). Ok t.rows) k, ap (λ (t : Rows). t.vars) k)
ok_rows s (Err l) new e = absurd cc

err_rows : (s : Rows) (o : Result (List Row) Excess) (l : Excess) → with_left s o ≡ Err l → o ≡ Err l
err_rows s (Ok rows) l e = absurd cc
err_rows s (Err k) l e = cc

-- one turn of the loop: rows without variables go, and then a variable
module _ (s : Rows) (left : ℕ) (now plain : Rows) (some : 0 < left) (is : plain ≡ with_rows now (filter (λ r. not (is_plain r)) now.rows)) (none : list_any is_impossible now.rows ≡ false) where
  turned : Excludes s left now → when_left (elimination (left - 1) plain.rows) (exclusion (left - 1)) ≡ excluded s
  turned h =
      let n = left - 1 in
      let up : left ≡ suc n = omega arith in
      rw is (sym (next n now.rows none) ∙ subst (λ (k : ℕ). exclusion k now.rows ≡ excluded s) up h.same)

  pub excludes-turn : (new : Rows) → eliminated (left - 1) plain ≡ Ok new → Excludes s left now → Excludes s (left - 1) new
  unfolding eliminated
  excludes-turn new e h =
      let o = ok_rows plain (elimination (left - 1) plain.rows) new e in
      record { same = rw o.0 at (turned h); inside = (let v : plain.vars ≡ now.vars = ap (λ (t : Rows). t.vars) is in let w = h.inside in let u = o.1 in omega arith) }

  pub excludes-stops : (new : Rows) (e : Stop Excess) → Answers (Err e) plain new (eliminated (left - 1) plain) → Excludes s left now → Decides (Err e) (excluded s)
  unfolding eliminated
  excludes-stops new (Refused l) a h = let o = err_rows plain (elimination (left - 1) plain.rows) l a.0 in sym (rw o at (turned h))
  excludes-stops new NoMemory a h = tt

  pub excludes-inside : Excludes s left now → left - 1 < plain.vars
  excludes-inside h = let v : plain.vars ≡ now.vars = ap (λ (t : Rows). t.vars) is in let w = h.inside in omega arith

-- ---- implication
small-neg : (z : ℤ) → is_small (neg_ℤ z) ≡ is_small z
small-neg z = let e : unsigned_abs (neg_ℤ z) ≡ unsigned_abs z = omega (arith, ints) in ap (λ (n : ℕ). nat_le n (2 ^ 126)) e

pub negation-past : (xs : List ℤ) (i : ℕ) (k : ℤ) → position_from (λ z. not (is_small z)) i (map neg_ℤ xs ++ k ∷ []) ≡ position_from (λ z. not (is_small z)) i (xs ++ k ∷ [])
negation-past [] i k = refl
negation-past (x ∷ xs) i k = rw (small-neg x, negation-past xs (i + 1) k) refl

pub implied-large : (s : Rows) (f : Aff) (var : ℕ) → Some var ≡ position_from (λ z. not (is_small z)) 0 (f.coefs ++ (negsuc 0 -ℤ f.constant) ∷ []) → implied s f ≡ Err (Large var)
unfolding implied
implied-large s f var e = rw (pushed-large s (negation f) var (e ∙ sym (negation-past f.coefs 0 (negsuc 0 -ℤ f.constant)))) refl

pub implied-pushed : (s : Rows) (f : Aff) (new : Rows) → pushed s (negation f) ≡ Ok new → implied s f ≡ excluded new
unfolding implied
implied-pushed s f new e = rw e refl

pub implied-stops : (s : Rows) (f : Aff) (new : Rows) (e : Stop Excess) → Answers (Err e) s new (pushed s (negation f)) → Decides (Err e) (implied s f)
unfolding implied
implied-stops s f new (Refused l) h = rw h.0 refl
implied-stops s f new NoMemory h = tt

front-small : (xs : List ℤ) (k : ℤ) → list_all is_small (xs ++ k ∷ []) ≡ true → list_all is_small xs ≡ true
front-small [] k h = refl
front-small (x ∷ xs) k h = let p = and_parts (is_small x) _ h in and_from _ _ p.0 (front-small xs k p.1)

pub none-small : (xs : List ℤ) (k : ℤ) → None ≡ position_from (λ z. not (is_small z)) 0 (xs ++ k ∷ []) → list_all is_small xs ≡ true
none-small xs k e = front-small xs k (all_small (xs ++ k ∷ []) 0 (sym e))

-- ---- numbers of a row are within the limit
coef-small : (xs : List ℤ) (k : ℤ) (x : ℕ) → list_all is_small (xs ++ k ∷ []) ≡ true → is_small (slice_index_or xs x (pos 0)) ≡ true
coef-small [] k x h = refl
coef-small (z ∷ xs) k zero h = (and_parts (is_small z) _ h).0
coef-small (z ∷ xs) k (suc x) h = coef-small xs k x (and_parts (is_small z) _ h).1

module _ (s : Rows) (h : IsSystem s) (at : ℕ) (r : Row) (is : slice_get s.rows at ≡ Some r) where
  pub row-small : list_all is_small (numbers r.form) ≡ true
  row-small = (each-get (IsRowOf s.vars) s.rows at r h.each is).small

  pub row-coef_small : (x : ℕ) → is_small (coef_at x r) ≡ true
  row-coef_small x = coef-small r.form.coefs r.form.constant x row-small

  pub row-constant_small : is_small r.form.constant ≡ true
  row-constant_small = small-last r.form.coefs r.form.constant row-small
