-- What is implied by a system, and the points of a substitution.
use Rattle.std.proofs.Common.{◌≡◌, ℕ, zero, suc, ◌<◌, ◌≤◌, ℤ, pos, negsuc, ◌+ℤ◌, ◌*ℤ◌, ◌-ℤ◌, neg_ℤ, Bool, true, false, not, cond, List, [], ◌∷◌, ◌++◌, map, length, get_or, set, arith, refl, sym, ◌∙◌, subst}
use Rattle.std.specs.Prelude.{Option, Some, None, Ok, Err, nat_lt}
use Rattle.std.specs.List.{position_from}
use Rattle.std.proofs.lemmas.Int.{ints, by_lt_z}
use lib.IntN.{*ℤ-zero, zero-*ℤ}
use Rattle.int_rows.specs.Rows.{dot, value, Holds, MeetsRow, Meets, coef_at, numbers}
use Rattle.int_rows.specs.Elimination.{is_small}
use Rattle.int_rows.specs.Systems.{Rows, IsRowOf, with_rows, unless_past, pushed, without, replaced, replaced_past, first_of, substituted, excluded, implied, negation}
use Rattle.int_rows.specs.Laws.{ExcludedHasNoPoint, OtherHasScaledPoint, ImpliedHolds, SubstitutionMovesPoints}
use Rattle.int_rows.specs.declared.row.Aff.{Aff}
use Rattle.int_rows.specs.declared.row.Row.{Row}
use Rattle.int_rows.specs.declared.row.Excess.TheVariants.{Many}
use Rattle.chill_base.proofs.Ring.{expand}
use Rattle.chill_base.proofs.Each.{each-append, each-weaker, each-map}
use Rattle.int_rows.proofs.FirstLaw.{value-combined}
use Rattle.int_rows.proofs.Excluded.{excluded_has_no_point, ok_parts}
use Rattle.int_rows.proofs.Back.{dot-set, each-unmap}
use Rattle.int_rows.proofs.Zeros.{ZeroFrom}
use Rattle.int_rows.proofs.SecondLaw.{not_excluded_has_point}

-- ---- the laws of systems
pub no_point : ExcludedHasNoPoint
unfolding excluded
no_point s p e h = excluded_has_no_point s.vars s.rows p e h

get-past : (cs : List ℤ) (i : ℕ) → length cs ≤ i → get_or cs i (pos 0) ≡ pos 0
get-past [] i h = refl
get-past (c ∷ cs) zero h = absurd (omega arith)
get-past (c ∷ cs) (suc i) h = get-past cs i (omega arith)

zero-past : (v : ℕ) (r : Row) → IsRowOf v r → ZeroFrom v r
zero-past v r h i le = get-past r.form.coefs i (omega (arith, h.width))

pub scaled_point : OtherHasScaledPoint
unfolding excluded
scaled_point s h e =
    let at = not_excluded_has_point s.vars s.vars s.rows (omega arith) (each-weaker (IsRowOf s.vars) (ZeroFrom s.vars) (zero-past s.vars) s.rows h.each) e in
    record { factor = at.0; point = at.1; some = at.2; width = at.3; meets = at.4 }

-- ---- what is implied
dot-neg : (cs p : List ℤ) → dot (map neg_ℤ cs) p ≡ neg_ℤ (dot cs p)
dot-neg [] p = refl
dot-neg (c ∷ cs) [] = refl
dot-neg (c ∷ cs) (a ∷ p) = rw (dot-neg cs p) (simp expand (omega (arith, ints)))

value-negation : (p : List ℤ) (f : Aff) → value (pos 1) p (negation f).form ≡ negsuc 0 -ℤ value (pos 1) p f
value-negation p f = rw (dot-neg f.coefs p) (omega (arith, ints))

pushed_cases : (o : Option ℕ) (b : Bool) (v : ℕ) (s t : Rows) → unless_past o (cond b (Ok t) (Err (Many v))) ≡ Ok s → t ≡ s
pushed_cases (Some i) b v s t e = absurd cc
pushed_cases None true v s t e = cc
pushed_cases None false v s t e = absurd cc

pub pushed-is : (s : Rows) (r : Row) (new : Rows) → pushed s r ≡ Ok new → with_rows s (s.rows ++ r ∷ []) ≡ new
unfolding pushed
pushed-is s r new e =
    pushed_cases (position_from (λ z. not (is_small z)) 0 (numbers r.form)) (nat_lt (length s.rows) 4096) s.vars new (with_rows s (s.rows ++ r ∷ [])) e

pub implied_holds : ImpliedHolds
unfolding implied
implied_holds s f p e h =
    let next = ok_parts (pushed s (negation f)) excluded true e in
    by_lt_z (value (pos 1) p f) (pos 0)
    (λ low.
    absurd (no_point next.0 p next.2
    (subst (λ (t : Rows). Meets (pos 1) p t.rows) (pushed-is s (negation f) next.0 next.1)
    (each-append (MeetsRow (pos 1) p) s.rows (negation f ∷ []) h (rw (value-negation p f) (omega (arith, ints)), tt)))))
    (λ holds. holds)

-- ---- substitution
dot-without : (cs p : List ℤ) (x : ℕ) → dot (set cs x (pos 0)) p ≡ dot cs p +ℤ neg_ℤ (get_or cs x (pos 0) *ℤ get_or p x (pos 0))
dot-without [] p x = rw zero-*ℤ refl
dot-without (c ∷ cs) [] zero = rw (*ℤ-zero c) refl
dot-without (c ∷ cs) [] (suc x) = rw (*ℤ-zero (get_or cs x (pos 0))) refl
dot-without (c ∷ cs) (y ∷ p) zero = simp expand (omega (arith, ints))
dot-without (c ∷ cs) (y ∷ p) (suc x) = rw (dot-without cs p x) (omega (arith, ints))

pub value-replaced : (p : List ℤ) (x : ℕ) (by : Aff) (r : Row) → x < length p → value (pos 1) p (replaced x by r).form ≡ value (pos 1) (set p x (value (pos 1) p by)) r.form
value-replaced p x by r h =
    value-combined (pos 1) p (pos 1) (without x r.form) (coef_at x r) by ∙
    rw (dot-without r.form.coefs p x, dot-set r.form.coefs p x (value (pos 1) p by) h) (simp expand (omega (arith, ints)))

substituted_cases : (o : Option ℕ) (s t : Rows) → unless_past o (Ok t) ≡ Ok s → t ≡ s
substituted_cases (Some i) s t e = absurd cc
substituted_cases None s t e = cc

pub substitution_moves : SubstitutionMovesPoints
unfolding substituted
substitution_moves p x by s new l e =
    let is = substituted_cases (first_of (map (replaced_past x by) s.rows)) new (with_rows s (map (replaced x by) s.rows)) e in
    let q = set p x (value (pos 1) p by) in (
      (λ h. each-weaker (λ r. MeetsRow (pos 1) p (replaced x by r)) (MeetsRow (pos 1) q)
          (λ r k. subst (Holds r.equal) (value-replaced p x by r l) k) s.rows
          (each-unmap (MeetsRow (pos 1) p) (replaced x by) s.rows (subst (λ (t : Rows). Meets (pos 1) p t.rows) (sym is) h))),
      (λ h. subst (λ (t : Rows). Meets (pos 1) p t.rows) is
          (each-map (MeetsRow (pos 1) q) (MeetsRow (pos 1) p) (replaced x by)
          (λ r k. subst (Holds r.equal) (sym (value-replaced p x by r l)) k) s.rows h)),
    )
