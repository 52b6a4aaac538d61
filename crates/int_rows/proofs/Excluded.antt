-- An excluded system has no integer point.
use Rattle.std.proofs.Common.{◌≡◌, ℕ, zero, suc, ◌%◌, Bool, true, false, cond, not, ◌&&◌, List, [], ◌∷◌, ℤ, pos, ◌+ℤ◌, ◌*ℤ◌, inl, inr, arith, refl, ap, sym, ◌∙◌, subst}
use Rattle.std.specs.Prelude.{unsigned_abs, int_lt, filter, Result, Ok, Err, nat_eq}
use Rattle.std.specs.Int.{◌∣◌}
use Rattle.std.specs.Ordering.{int_eq}
use Rattle.std.specs.List.{list_all, list_any}
use Rattle.std.proofs.lemmas.Int.{ints, unsigned_abs-mul}
use Rattle.std.proofs.lemmas.Bool.{cases_Bool, and_parts, or_cases, not-true, eqb-false}
use Rattle.std.proofs.lemmas.Bool.Decides.{Decides-int_eq}
use native.Mathlib.Nat.{dvd-mul_left, mod-eq-zero_of_dvd}
use lib.IntN.{zero-*ℤ}
use Rattle.int_rows.specs.Gcd.{gcd_of}
use Rattle.int_rows.specs.Rows.{dot, Holds, MeetsRow, Meets}
use Rattle.int_rows.specs.Elimination.{elimination}
use Rattle.int_rows.specs.Exclusion.{is_plain, is_impossible, when_left, exclusion}
use Rattle.int_rows.specs.declared.row.Row.{Row}
use Rattle.chill_base.proofs.Each.{each-filter, each-weaker}
use Rattle.int_rows.proofs.GcdLaws.{gcd_of-divides}
use Rattle.int_rows.proofs.FirstLaw.{dot-divided, elimination_keeps_points}

pub dot-plain : (cs p : List ℤ) → list_all (λ c. int_eq c (pos 0)) cs ≡ true → dot cs p ≡ pos 0
dot-plain [] p e = refl
dot-plain (c ∷ cs) [] e = refl
dot-plain (c ∷ cs) (a ∷ p) e =
    let parts = and_parts (int_eq c (pos 0)) _ e in
    let here : c ≡ pos 0 = (Decides-int_eq c (pos 0)).0 parts.0 in
    let there : dot cs p ≡ pos 0 = dot-plain cs p parts.1 in
    rw (here, there, zero-*ℤ a) refl

divides_constant : (cs p : List ℤ) (c : ℤ) → dot cs p +ℤ pos 1 *ℤ c ≡ pos 0 → gcd_of cs ∣ unsigned_abs c
divides_constant cs p c e =
    let g = gcd_of cs in
    let q = dot-divided g cs p (gcd_of-divides cs) in
    let size : unsigned_abs (dot cs p) ≡ unsigned_abs c = omega (arith, ints) in
    subst (λ n. g ∣ n) (sym (unsigned_abs-mul _ (pos g)) ∙ ap unsigned_abs q ∙ size) (dvd-mul_left g _)

impossible : (d : ℤ) (e : Bool) (cs p : List ℤ) (c : ℤ) → cond e (not (nat_eq (unsigned_abs c % gcd_of cs) 0)) (list_all (λ c. int_eq c (pos 0)) cs && int_lt c (pos 0)) ≡ true → Holds e (dot cs p +ℤ pos 1 *ℤ c) → ⊥
impossible d true cs p c t h = eqb-false _ _ (not-true _ t) (mod-eq-zero_of_dvd _ (divides_constant cs p c h))
impossible d false cs p c t h =
    let parts = and_parts _ (int_lt c (pos 0)) t in
    let flat : dot cs p ≡ pos 0 = dot-plain cs p parts.0 in
    let sign = parts.1 in
    grind (arith, ints)

-- no integer point meets an impossible row
pub impossible_row : (p : List ℤ) (r : Row) → is_impossible r ≡ true → MeetsRow (pos 1) p r → ⊥
unfolding is_impossible
impossible_row p r t h = impossible (pos 1) r.equal r.form.coefs p r.form.constant t h

impossible_rows : (p : List ℤ) (rows : List Row) → list_any is_impossible rows ≡ true → Meets (pos 1) p rows → ⊥
impossible_rows p [] e h = cc
impossible_rows p (r ∷ rows) e h = elim (or_cases (is_impossible r) _ e) [ inl t ↦ impossible_row p r t h.0 | inr t ↦ impossible_rows p rows t h.1 ]

pub ok_parts : {A B E : Type 0} (o : Result A E) (f : A → Result B E) (b : B) → when_left o f ≡ Ok b → (a : A) × (o ≡ Ok a) × (f a ≡ Ok b)
ok_parts (Ok a) f b e = (a, refl, e)
ok_parts (Err x) f b e = absurd cc

-- an excluded system has no integer point
pub excluded_has_no_point : (n : ℕ) (rows : List Row) (p : List ℤ) → exclusion n rows ≡ Ok true → Meets (pos 1) p rows → ⊥
unfolding exclusion
excluded_has_no_point zero rows p e h = impossible_rows p rows (cc) h
excluded_has_no_point (suc n) rows p e h =
    elim (cases_Bool (list_any is_impossible rows)) [
      | inl t ↦ impossible_rows p rows t h
      | inr t ↦
          let next = ok_parts (elimination n (filter (λ r. not (is_plain r)) rows)) (exclusion n) true (rw t at e) in
          excluded_has_no_point n next.0 p next.2
          (elimination_keeps_points (pos 1) p n _ next.0 next.1 (each-weaker _ (MeetsRow (pos 1) p) (λ r w. w.0) _ (each-filter (MeetsRow (pos 1) p) (λ r. not (is_plain r)) rows h)))
    ]
