-- How many variables the forms of a padded statement have.
use Rattle.std.proofs.Common.{◌≡◌, ℕ, suc, ◌+◌, ◌≤◌, arith, length, List, ◌∷◌, [], ◌++◌, take, drop, map, Bool, true, false, cond, ◌&&◌, ◌||◌, not, nat_eq, nat_le, refl, eq-eqb, eqb-true, le-leb, leb-true, length-take, ℤ, pos}
use Rattle.std.specs.Prelude.{IsTrue, Option, None}
use Rattle.std.specs.Ordering.{int_eq}
use Rattle.std.specs.List.{list_all, list_any}
use Rattle.std.proofs.lemmas.Bool.{cond_both}
use Rattle.std.proofs.lemmas.List.Folds.{list_all-append}
use Rattle.int_rows.specs.declared.row.Aff.{Aff}
use Rattle.nest_tree.specs.declared.body.Access.{Access}
use Rattle.nest_tree.specs.declared.kernel.KernelRow.{KernelRow}
use Rattle.nest_core.specs.Forms.{has_vars}
use Rattle.nest_core.specs.Pieces.{last_held}
use Rattle.nest_core.specs.Shapes.{is_row_over, is_access_over}
use Rattle.pad_layouts.specs.Forms.{form_with, bound}
use Rattle.pad_layouts.specs.Moved.{is_pick, suits, moved_form, moved_access, kept_own, moved_row, kept_rows, is_bound, with_missing}
use Rattle.pad_layouts.specs.Products.{is_plain}
use Rattle.pad_layouts.proofs.Mapping.{length-range, length-map}

pub form-has : (vars : ℕ) (base : List ℤ) (x : ℕ) (a : ℤ) (y : ℕ) (b c : ℤ) → IsTrue (has_vars vars (form_with vars base x a y b c))
unfolding form_with
form-has vars base x a y b c = eq-eqb _ _ (length-range _ 0 vars)

pub moved-has : (picks : List (Option ℕ)) (f : Aff) → IsTrue (has_vars (length picks) (moved_form picks f))
unfolding moved_form
moved-has picks f = eq-eqb _ _ (length-map _ picks)

or_true : (b : Bool) → b || true ≡ true
or_true true = refl
or_true false = refl

pub and_parts : (x y : Bool) → x && y ≡ true → (x ≡ true) × (y ≡ true)
and_parts true true e = (refl, refl)
and_parts true false e = absurd cc
and_parts false y e = absurd cc

pub bound-over : (vars d own : ℕ) (f : Aff) → IsTrue (has_vars vars f) → own ≤ d → IsTrue (is_row_over vars d (bound own f))
bound-over vars d own f h l = rw (h, le-leb own d l, or_true (nat_eq own 0)) refl

pub all_more : {A : Type 0} (p : A → Bool) (xs : List A) (x : A) → IsTrue (list_all p xs) → IsTrue (p x) → IsTrue (list_all p (xs ++ x ∷ []))
all_more p xs x h k = rw (list_all-append p xs (x ∷ []), h, k) refl

pub all_both : {A : Type 0} (p : A → Bool) (xs ys : List A) → IsTrue (list_all p xs) → IsTrue (list_all p ys) → IsTrue (list_all p (xs ++ ys))
all_both p xs ys h k = rw (list_all-append p xs ys, h, k) refl

pub missing-over : (vars d own : ℕ) (f : Aff) (rows : List KernelRow) → IsTrue (has_vars vars f) → own ≤ d → IsTrue (list_all (is_row_over vars d) rows) → IsTrue (list_all (is_row_over vars d) (with_missing own f rows))
unfolding with_missing
missing-over vars d own f rows h l r =
    cond_both (list_any (is_bound f) rows) rows (rows ++ bound own f ∷ []) (λ (rs : List KernelRow). list_all (is_row_over vars d) rs ≡ true) (λ _. r) (λ _. all_more (is_row_over vars d) rows (bound own f) r (bound-over vars d own f h l))

-- ---- kept rows
held-within : (zs : List ℤ) (q found : ℕ) → found ≤ q → last_held q found zs ≤ q + length zs
held-within [] q found l = omega (arith, l)
held-within (z ∷ zs) q found l =
    let h = held-within zs (suc q) (cond (int_eq z (pos 0)) found (suc q)) (cond_both (int_eq z (pos 0)) found (suc q) (λ n. n ≤ suc q) (λ _. omega (arith, l)) (λ _. omega arith)) in
    omega (arith, h)

own-within : (params d : ℕ) (r : KernelRow) → kept_own params d r ≤ d
unfolding kept_own
own-within params d r =
    cond_both (nat_le r.own d) r.own (last_held 0 0 (take d (drop params r.row.form.coefs))) (λ n. n ≤ d) (λ e. leb-true _ _ e)
    (λ _. omega (arith, held-within (take d (drop params r.row.form.coefs)) 0 0 (omega arith), length-take d (drop params r.row.form.coefs)))

own-guard : (params d : ℕ) (r : KernelRow) → r.own ≡ 0 → kept_own params d r ≡ 0
unfolding kept_own
own-guard params d r e =
    let l : r.own ≤ d = omega (arith, e) in
    rw (le-leb r.own d l) e

own_kept : (old own : ℕ) (equal : Bool) → nat_eq old 0 || not equal ≡ true → (old ≡ 0 → own ≡ 0) → nat_eq own 0 || not equal ≡ true
own_kept old own false e h = or_true (nat_eq own 0)
own_kept old own true e h = let z : own ≡ 0 = h (eqb-true old 0 (or_false (nat_eq old 0) e)) in rw z refl
  where
    or_false : (b : Bool) → b || false ≡ true → b ≡ true
    or_false true e = refl
    or_false false e = absurd cc

moved-over : (params d n levels : ℕ) (picks : List (Option ℕ)) (r : KernelRow) → IsTrue (is_row_over n levels r) → IsTrue (is_row_over (length picks) d (moved_row params d picks r))
moved-over params d n levels picks r old =
    let a = and_parts (has_vars n r.row.form) _ old in
    let b = and_parts (nat_le r.own levels) _ a.1 in
    rw (moved-has picks r.row.form, le-leb (kept_own params d r) d (own-within params d r), own_kept r.own (kept_own params d r) r.row.equal b.1 (own-guard params d r)) refl

pub kept-over : (params d entry n levels : ℕ) (picks : List (Option ℕ)) (rows : List KernelRow) → IsTrue (list_all (is_row_over n levels) rows) → IsTrue (list_all (is_row_over (length picks) d) (kept_rows params d entry picks rows))
kept-over params d entry n levels picks [] h = refl
kept-over params d entry n levels picks (r ∷ rs) h =
    let a = and_parts (is_row_over n levels r) _ h in
    let rest = kept-over params d entry n levels picks rs a.1 in
    cond_both (is_plain entry None r.row.form) (moved_row params d picks r ∷ kept_rows params d entry picks rs) (kept_rows params d entry picks rs)
    (λ (rows : List KernelRow). list_all (is_row_over (length picks) d) rows ≡ true) (λ _. rw (moved-over params d n levels picks r a.0, rest) refl) (λ _. rest)

-- ---- cells
pub moved-all : (picks : List (Option ℕ)) (fs : List Aff) → IsTrue (list_all (has_vars (length picks)) (map (moved_form picks) fs))
moved-all picks [] = refl
moved-all picks (f ∷ fs) = rw (moved-has picks f, moved-all picks fs) refl

pub access-over : (n : ℕ) (picks : List (Option ℕ)) (a : Access) → IsTrue (is_access_over n a) → IsTrue (is_access_over (length picks) (moved_access picks a))
access-over n picks a h =
    let p = and_parts (list_all (has_vars n) a.at) _ h in
    rw (moved-all picks a.at, length-map (moved_form picks) a.at, p.1) refl

pub form-suits : (n : ℕ) (picks : List (Option ℕ)) (f : Aff) → IsTrue (list_all (is_pick n) picks) → IsTrue (has_vars n f) → IsTrue (suits picks f)
form-suits n picks f h w = let e : length f.coefs ≡ n = eqb-true _ _ w in rw (e, h) refl

pub forms-suit : (n : ℕ) (picks : List (Option ℕ)) (fs : List Aff) → IsTrue (list_all (is_pick n) picks) → IsTrue (list_all (has_vars n) fs) → IsTrue (list_all (suits picks) fs)
forms-suit n picks [] h w = refl
forms-suit n picks (f ∷ fs) h w =
    let p = and_parts (has_vars n f) _ w in
    rw (form-suits n picks f h p.0, forms-suit n picks fs h p.1) refl

pub access-suits : (n : ℕ) (picks : List (Option ℕ)) (a : Access) → IsTrue (list_all (is_pick n) picks) → IsTrue (is_access_over n a) → IsTrue (list_all (suits picks) a.at)
access-suits n picks a h w = forms-suit n picks a.at h (and_parts (list_all (has_vars n) a.at) _ w).0
