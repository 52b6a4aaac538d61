-- How many variables forms have.
use Rattle.std.proofs.Common.{◌≡◌, ℕ, suc, ◌+◌, ◌≤◌, arith, length, List, ◌∷◌, [], ◌++◌, Bool, true, false, ◌&&◌, ◌||◌, not, nat_eq, nat_le, refl, ap, ℤ, pos, map, eq-eqb, eqb-true, le-leb, length-append}
use Rattle.std.specs.Prelude.{Ok, IsTrue}
use Rattle.std.specs.List.{list_all}
use Rattle.std.proofs.lemmas.List.Folds.{list_all-append}
use Rattle.int_rows.specs.declared.row.Aff.{Aff}
use Rattle.nest_tree.specs.declared.kernel.KernelRow.{KernelRow}
use Rattle.nest_core.specs.Forms.{has_vars, judged_form}
use Rattle.nest_core.specs.Shapes.{is_row_over}
use Rattle.nest_core.proofs.Kept.{judged-width}
use Rattle.nest_systems.specs.Ranges.{Names, coef_of, of_two, of_one}

-- a form that is judged keeps its width
pub judged_kept : (n : ℕ) (f g : Aff) → IsTrue (has_vars n f) → judged_form f ≡ Ok g → IsTrue (has_vars n g)
judged_kept n f g w e = judged-width n f g w e

pub judged_length : (f g : Aff) → judged_form f ≡ Ok g → length g.coefs ≡ length f.coefs
judged_length f g e = eqb-true (length g.coefs) (length f.coefs) (judged-width (length f.coefs) f g (eq-eqb (length f.coefs) (length f.coefs) refl) e)

as-many : {A B : Type 0} (f : A → B) (xs : List A) → length (map f xs) ≡ length xs
as-many f [] = refl
as-many f (x ∷ xs) = ap suc (as-many f xs)

-- a parameter and a constant are a form over the parameters
pub one_width : (params : Names) (a : List ℕ) (z : ℤ) → IsTrue (has_vars (length params) (of_one params a z))
unfolding of_one of_two
one_width params a z = eq-eqb (length (map (coef_of a (pos 1) a (pos 0)) params)) (length params) (as-many (coef_of a (pos 1) a (pos 0)) params)

-- one more that passes
pub all_more : {A : Type 0} (p : A → Bool) (xs new : List A) (x : A) → new ≡ xs ++ x ∷ [] → IsTrue (list_all p xs) → IsTrue (p x) → IsTrue (list_all p new)
all_more p xs new x e h k = rw (e, list_all-append p xs (x ∷ []), h, k) refl

pub count_more : {A : Type 0} (xs new : List A) (x : A) (i : ℕ) → new ≡ xs ++ x ∷ [] → length xs ≡ i → length new ≡ i + 1
count_more xs new x i e h = omega (arith, ap length e, length-append xs (x ∷ []), h)

or_true : (b : Bool) → b || true ≡ true
or_true true = refl
or_true false = refl

and_parts : (x y : Bool) → x && y ≡ true → (x ≡ true) × (y ≡ true)
and_parts true true e = (refl, refl)
and_parts true false e = absurd cc
and_parts false y e = absurd cc

-- a bound that stays a bound, or becomes a guard; a guard stays one
pub own_kept : (old own : ℕ) (equal : Bool) → nat_eq old 0 || not equal ≡ true → (old ≡ 0 → own ≡ 0) → nat_eq own 0 || not equal ≡ true
own_kept old own false e h = or_true (nat_eq own 0)
own_kept old own true e h = let z : own ≡ 0 = h (eqb-true old 0 (or_false (nat_eq old 0) e)) in rw z refl
  where
    or_false : (b : Bool) → b || false ≡ true → b ≡ true
    or_false true e = refl
    or_false false e = absurd cc

pub row_kept : (n m d k own : ℕ) (r : KernelRow) (f : Aff) → IsTrue (is_row_over m k r) → IsTrue (has_vars n f) → own ≤ d → (r.own ≡ 0 → own ≡ 0)
    → IsTrue (is_row_over n d (record { row = record { equal = r.row.equal; form = f }; own = own }))
row_kept n m d k own r f old w l h =
    let a = and_parts (has_vars m r.row.form) _ old in
    let b = and_parts (nat_le r.own k) _ a.1 in
    rw (w, le-leb own d l, own_kept r.own own r.row.equal b.1 h) refl
