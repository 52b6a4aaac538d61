-- A valid input keeps the ranges that the systems of statements speak of.
use Rattle.std.proofs.Common.{◌≡◌, inl, inr, ℕ, zero, suc, ◌≤◌, ◌^◌, Bool, true, false, List, [], ◌∷◌, length, map, replicate, Option, Some, None, Ok, refl, sym, ◌∙◌, ap, subst, arith, append-nil, ℤ, pos, negsuc, ◌+ℤ◌, ◌*ℤ◌, ◌≤ℤ◌, ◌<ℤ◌}
use Rattle.std.specs.Prelude.{bytes_eq, cond, if◌then◌else◌, nat_lt}
use Rattle.std.specs.List.{AllByRecursion}
use Rattle.std.proofs.lemmas.Bool.Decides.{nat_tests}
use Rattle.std.proofs.lemmas.Int.{ints}
use Rattle.std.proofs.lemmas.Slice.Eq.{bytes_eq-Decides}
use Rattle.c_tree.specs.declared.index.Index.{Index}
use Rattle.c_tree.specs.declared.program.Array.{Array}
use Rattle.c_tree.specs.declared.program.Matrix.{Matrix}
use Rattle.c_tree.specs.declared.program.Program.{Program}
use Rattle.c_judge.specs.Limits.{has_large, size_of}
use Rattle.c_judge.specs.Signature.{extents_of}
use Rattle.c_meaning.specs.Inputs.{Input, IsMatrix, IsParameter, HasExtents, declared_extents, extents_in, sight_of_parameters, three_of}
use Rattle.c_meaning.specs.Inputs as inputs
use Rattle.c_meaning.specs.Names.{Name, line}
use Rattle.c_meaning.specs.Value.{is_inside, measure, value_of, values_of}
use Rattle.c_meaning.specs.Weighed.{Weighed, plain, sum_of}
use Rattle.int_rows.specs.declared.row.Aff.{Aff}
use Rattle.int_rows.specs.Rows.{dot}
use Rattle.nest_tree.specs.Forms.{value, coef}
use Rattle.nest_tree.specs.Lists.{IsIn}
use Rattle.nest_systems.specs.declared.range.Span.{Span}
use Rattle.nest_systems.specs.Extents.{extent_form}
use Rattle.nest_systems.specs.Ranges.{of_one, of_two, of_none, coef_of, from_zero, to_one, matrix_value_span, first_span, value_span}
use Rattle.nest_systems.specs.Sums.{stopped_sum}
use Rattle.nest_laws.specs.Acts.{three}
use Rattle.acceptance_laws.specs.Formed.{AreApart}
use Rattle.point_laws.specs.Ranges.{InSpan}
use Rattle.run_laws.proofs.Matrices.{IsKept, kept, found, one_of, var-measured, next-measured, from_value, two_values}
use Rattle.acceptance_laws.specs.Systems.{seen}
use Rattle.scene_laws.specs.Inputs.{scene}
use Rattle.scene_laws.specs.Ranged.{ValidInputIsRanged}
use Rattle.scene_laws.proofs.Arrays.{each_of, named_in, not_large}
use Rattle.scene_laws.proofs.Extents.{extent_value}
use Rattle.scene_laws.proofs.Matrices.{begins_within, has-in, in_line}
use Rattle.scene_laws.proofs.Rules.{HasRules, has_rules}

-- ---- the value of a form of one parameter
none_named : (val : Name → ℤ) (a : Name) (xs : List Name) → (IsIn a xs → ⊥) → dot (map (coef_of a (pos 1) a (pos 0)) xs) (map val xs) ≡ pos 0
unfolding coef_of stopped_sum
none_named val a [] h = refl
none_named val a (x ∷ xs) h = by (bytes_eq x a) refl (none_named val a xs (λ k. h (inr k)))
  where
    by : (b : Bool) → bytes_eq x a ≡ b → dot (map (coef_of a (pos 1) a (pos 0)) xs) (map val xs) ≡ pos 0 → (coef_of a (pos 1) a (pos 0) x *ℤ val x) +ℤ dot (map (coef_of a (pos 1) a (pos 0)) xs) (map val xs) ≡ pos 0
    by true e more = absurd (h (inl (sym ((bytes_eq-Decides x a).0 e))))
    by false e more = rw e (omega (arith, ints, more))

one_named : (val : Name → ℤ) (a : Name) (xs : List Name) → AreApart xs → IsIn a xs → dot (map (coef_of a (pos 1) a (pos 0)) xs) (map val xs) ≡ val a
unfolding coef_of stopped_sum
one_named val a [] h k = absurd k
one_named val a (x ∷ xs) h (inl e) =
    let t : bytes_eq x a ≡ true = (bytes_eq-Decides x a).1 (sym e) in
    let more = none_named val a xs (subst (λ (y : Name). IsIn y xs → ⊥) (sym e) h.0) in
    let same : val x ≡ val a = ap val (sym e) in
    rw t (omega (arith, ints, more, same))
one_named val a (x ∷ xs) h (inr k) =
    by (bytes_eq x a) refl (one_named val a xs h.1 k)
  where
    by : (b : Bool) → bytes_eq x a ≡ b → dot (map (coef_of a (pos 1) a (pos 0)) xs) (map val xs) ≡ val a → (coef_of a (pos 1) a (pos 0) x *ℤ val x) +ℤ dot (map (coef_of a (pos 1) a (pos 0)) xs) (map val xs) ≡ val a
    by true e more = absurd (h.0 (subst (λ (y : Name). IsIn y xs) (sym ((bytes_eq-Decides x a).0 e)) k))
    by false e more = rw e (omega (arith, ints, more))

of_one_value : (val : Name → ℤ) (a : Name) (xs : List Name) (z : ℤ) → AreApart xs → IsIn a xs → value (map val xs) (of_one xs a z) ≡ (val a +ℤ z)
unfolding of_one of_two
of_one_value val a xs z h k = ap (λ (d : ℤ). d +ℤ z) (one_named val a xs h k)

zeros : (n : ℕ) (p : List ℤ) → dot (replicate n (pos 0)) p ≡ pos 0
zeros zero p = refl
zeros (suc n) [] = refl
zeros (suc n) (x ∷ p) = (let more = zeros n p in omega (arith, ints, more))

of_none_value : (xs : List Name) (p : List ℤ) → value p (of_none xs (pos 0)) ≡ pos 0
unfolding of_none
of_none_value xs p = (let z = zeros (length xs) p in omega (arith, ints, z))

-- from 0 to a parameter's value and a number more
in_span : (p : Program) (i : Input) (a : Name) (z x : ℤ) → AreApart p.params → IsIn a p.params → pos 0 ≤ℤ x → x ≤ℤ (i.value a +ℤ z) → InSpan (seen p (scene p i)) (to_one p.params a z) x
unfolding from_zero
in_span p i a z x h k low high =
    let l = of_none_value p.params (map i.value p.params) in
    let u = of_one_value i.value a p.params z h k in
    record { low = omega (arith, ints, l, low); high = omega (arith, ints, u, high) }

-- ---- extents
module _ (p : Program) (i : Input) (apart : AreApart p.params) where
  large_first : (e : Index) (es : List Index) → has_large (e ∷ es) ≡ false → (size_of e ≤ 2 ^ 41) × (has_large es ≡ false)
  large_first e es h = by (nat_lt (2 ^ 41) (size_of e)) refl h
    where
      by : (t : Bool) → nat_lt (2 ^ 41) (size_of e) ≡ t → (if t then true else has_large es) ≡ false → (size_of e ≤ 2 ^ 41) × (has_large es ≡ false)
      by true k h = absurd cc
      by false k h = (grind (arith, nat_tests, k), h)

  each_extent : (es : List Index) (vs : List ℤ) → has_large es ≡ false → values_of es (sight_of_parameters i) ≡ Ok vs → AllByRecursion (λ v. pos 0 ≤ℤ v) vs → (e : Index) → IsIn e es
      → (f : Aff) → extent_form p.params e ≡ Some f → pos 0 ≤ℤ value (map i.value p.params) f
  each_extent [] vs small h natural e k f form = absurd k
  each_extent (x ∷ es) vs small h natural e k f form =
      let s = large_first x es small in
      let two = two_values (value_of x (sight_of_parameters i)) (values_of es (sight_of_parameters i)) vs h in
      let w = from_value (measure x (sight_of_parameters i)) two.0 two.2 in
      let naturals : AllByRecursion (λ v. pos 0 ≤ℤ v) (two.0 ∷ two.1) = subst (λ (l : List ℤ). AllByRecursion (λ v. pos 0 ≤ℤ v) l) two.4 natural in
      elim k [
        | inl same ↦ (
            let is : extent_form p.params x ≡ Some f = sym (ap (extent_form p.params) same) ∙ form in
            let worth : value (map i.value p.params) f ≡ two.0 =
            ap (λ (l : List ℤ). value l f) (sym (append-nil (map i.value p.params))) ∙ extent_value p.params apart (sight_of_parameters i) x f w.0 [] s.0 is w.1 ∙ w.2 in
            subst (λ (z : ℤ). pos 0 ≤ℤ z) (sym worth) naturals.0)
        | inr later ↦ each_extent es two.1 s.1 two.3 naturals.1 e later f form
      ]

-- ---- the arrays of matrices
module _ (p : Program) (i : Input) (apart : AreApart p.params) (extents : AllByRecursion (λ a. HasExtents a i) p.arrays) where
  line_extents : (x : Name) (e : Index) (w : Weighed) → extents_of p.arrays x ≡ e ∷ [] → measure e (sight_of_parameters i) ≡ Ok w → declared_extents p i x ≡ w.value ∷ pos 1 ∷ pos 1 ∷ []
  line_extents x e w one weighs =
      let f = found x p.arrays e one in
      let v = each_of (λ (a : Array). HasExtents a i) f.0 p.arrays extents (named_in x p.arrays f.0 f.1).0 in
      let values : v.values ≡ w.value ∷ [] = one_of e (sight_of_parameters i) w v.values weighs (ap (λ (es : List Index). values_of es (sight_of_parameters i)) (sym f.2) ∙ v.are) in
      ap (λ (o : Option Array). extents_in o i) f.1 ∙ ap three_of v.are ∙ ap (λ (vs : List ℤ). inputs.three vs) values

  -- a cell that is seen of an array of one extent
  record SeenAt (a : Name) (long x : ℤ) : Type 0 where
    at : ℤ
    from : pos 0 ≤ℤ at
    to : at <ℤ long
    is : x ≡ i.index a (line at)

  seen_at : (a : Name) (long : ℤ) (at : List ℤ) (x : ℤ) → declared_extents p i a ≡ long ∷ pos 1 ∷ pos 1 ∷ [] → (seen p (scene p i)).cells a at ≡ Some x → SeenAt a long x
  seen_at a long at x e h = by (is_inside (three at) (declared_extents p i a)) refl h
    where
      by : (b : Bool) → is_inside (three at) (declared_extents p i a) ≡ b → (if b then Some (i.index a (three at)) else None) ≡ Some x → SeenAt a long x
      by false t h = absurd cc
      by true t h =
          let l = in_line (three at) long (sym (ap (is_inside (three at)) e) ∙ t) in
          let same : x ≡ i.index a (three at) = cc in
          record { at = l.0; from = l.2; to = l.3; is = same ∙ ap (i.index a) l.1 }

  of_begins : (m : Matrix) → IsKept p m → IsMatrix m i → (at : List ℤ) (x : ℤ) → (seen p (scene p i)).cells m.index at ≡ Some x → InSpan (seen p (scene p i)) (to_one p.params m.count (pos 0)) x
  of_begins m k v at x h =
      let c = seen_at m.index (i.value m.rows +ℤ pos 1) at x (line_extents m.index k.rows.extent (sum_of (plain (i.value m.rows)) (plain (pos 1))) k.rows.is (next-measured m.rows k.rows.extent (sight_of_parameters i) k.rows.tested)) h in
      let b = begins_within m i v c.at c.from c.to in
      let e = c.is in
      in_span p i m.count (pos 0) x apart (has-in p.params m.count k.count_is) (omega (arith, ints, b, e)) (omega (arith, ints, b, e))

  of_columns : (m : Matrix) → IsKept p m → IsMatrix m i → (at : List ℤ) (x : ℤ) → (seen p (scene p i)).cells m.col at ≡ Some x → InSpan (seen p (scene p i)) (to_one p.params m.cols (negsuc 0)) x
  of_columns m k v at x h =
      let c = seen_at m.col (i.value m.count) at x (line_extents m.col k.entries.extent (plain (i.value m.count)) k.entries.is (var-measured m.count k.entries.extent (sight_of_parameters i) k.entries.tested)) h in
      let from = v.column_from c.at c.from c.to in
      let to = v.column_to c.at c.from c.to in
      let e = c.is in
      in_span p i m.cols (negsuc 0) x apart (has-in p.params m.cols k.cols_is) (omega (arith, ints, from, e)) (omega (arith, ints, to, e))

  of_matrices : (ms : List Matrix) → AllByRecursion (IsKept p) ms → AllByRecursion (λ m. IsMatrix m i) ms → (a : Name) (at : List ℤ) (x : ℤ) (s : Span) → matrix_value_span p.params ms a ≡ Some s → (seen p (scene p i)).cells a at ≡ Some x
      → InSpan (seen p (scene p i)) s x
  of_matrices [] k v a at x s e h = absurd cc
  of_matrices (m ∷ ms) k v a at x s e h = by (bytes_eq a m.index) refl (bytes_eq a m.col) refl e (of_matrices ms k.1 v.1 a at x s)
    where
      by : (b : Bool) → bytes_eq a m.index ≡ b → (c : Bool) → bytes_eq a m.col ≡ c
          → cond b (Some (to_one p.params m.count (pos 0))) (cond c (Some (to_one p.params m.cols (negsuc 0))) (matrix_value_span p.params ms a)) ≡ Some s
          → (matrix_value_span p.params ms a ≡ Some s → (seen p (scene p i)).cells a at ≡ Some x → InSpan (seen p (scene p i)) s x) → InSpan (seen p (scene p i)) s x
      by true t c u e more =
          let same : to_one p.params m.count (pos 0) ≡ s = cc in
          let name = (bytes_eq-Decides a m.index).0 t in
          subst (λ (s : Span). InSpan (seen p (scene p i)) s x) same (of_begins m k.0 v.0 at x (ap (λ (b : Name). (seen p (scene p i)).cells b at) (sym name) ∙ h))
      by false t true u e more =
          let same : to_one p.params m.cols (negsuc 0) ≡ s = cc in
          let name = (bytes_eq-Decides a m.col).0 u in
          subst (λ (s : Span). InSpan (seen p (scene p i)) s x) same (of_columns m k.0 v.0 at x (ap (λ (b : Name). (seen p (scene p i)).cells b at) (sym name) ∙ h))
      by false t false u e more = more e h

-- ---- parameters
not_below : (val : Name → ℤ) (xs : List Name) → ((x : Name) → IsIn x xs → pos 0 ≤ℤ val x) → (v : ℕ) → pos 0 ≤ℤ coef v (map val xs)
not_below val [] h v = omega (arith, ints)
not_below val (x ∷ xs) h zero = h x (inl refl)
not_below val (x ∷ xs) h (suc v) = not_below val xs (λ y k. h y (inr k)) v

length_mapped : (val : Name → ℤ) (xs : List Name) → length (map val xs) ≡ length xs
length_mapped val [] = refl
length_mapped val (x ∷ xs) = ap suc (length_mapped val xs)

pub is_ranged : ValidInputIsRanged
unfolding value_span
is_ranged p k i on =
    let rules : HasRules p = has_rules p k on.rules on.is_accepted in
    let all = kept p p.matrices 0 p.matrices rules.matrices in
    record {
      count = length_mapped i.value p.params;
      params = λ v l. not_below i.value p.params (λ x h. (each_of (λ (y : Name). IsParameter y i) x p.params on.valid.parameters h).from) v;
      extents = λ a e f here there form. (
          let v = each_of (λ (b : Array). HasExtents b i) a p.arrays on.valid.extents here in
          each_extent p i rules.apart a.extents v.values (not_large a 0 p.arrays rules.extents here) v.are v.not_negative e there f form);
      values = λ a at x s is cell. of_matrices p i rules.apart on.valid.extents p.matrices all on.valid.matrices a at x s (of_first (matrix_value_span p.params p.matrices a) s is) cell;
    }
  where
    of_first : (o : Option Span) (s : Span) → first_span o None ≡ Some s → o ≡ Some s
    of_first None s h = absurd cc
    of_first (Some t) s h = h
