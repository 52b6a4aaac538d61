-- Parameters and extents are at least 0 at each point that begins with the parameters.
use Rattle.std.proofs.Common.{◌≡◌, ◌⊎◌, inl, inr, ℕ, zero, suc, ◌+◌, ◌<◌, ◌≤◌, Bool, true, false, cond, List, [], ◌∷◌, map, length, refl, sym, ◌∙◌, ap, subst, arith, ℤ, pos, ◌+ℤ◌, ◌≤ℤ◌, nat_eq}
use Rattle.std.specs.Prelude.{Option, Some, None}
use Rattle.std.specs.List.{list_any, flat_map, range_with_len}
use Rattle.std.proofs.lemmas.Bool.{eqb-true, eq-eqb}
use Rattle.c_tree.specs.declared.index.Index.{Index, Index-F, fold_out-Index, map-Index, out-Index}
use Rattle.c_tree.specs.declared.index.Index.TheVariants.{Const, Var, At, Neg, Plus, Minus, Times, Min, Max, Floor, Ceil, outs-Const, outs-Var, outs-At, outs-Neg, outs-Plus, outs-Minus, outs-Times, outs-Min, outs-Max, outs-Floor, outs-Ceil}
use Rattle.c_tree.specs.declared.index.Subscripts.{Subscripts, fold-Subscripts}
use Rattle.c_tree.specs.declared.index.Cell.{Cell, fold-Cell}
use Rattle.c_tree.specs.declared.program.Array.{Array}
use Rattle.c_tree.specs.declared.program.Program.{Program}
use Rattle.c_meaning.proofs.Indices.{induct}
use Rattle.int_rows.specs.declared.row.Aff.{Aff}
use Rattle.nest_tree.specs.declared.made.Made.{Made}
use Rattle.nest_tree.specs.Lists.{IsIn}
use Rattle.nest_tree.specs.Forms.{value, coef, Meets, variable}
use Rattle.nest_tree.specs.Pieces.{IsLike}
use Rattle.nest_tree.specs.Terms.{Input}
use Rattle.nest_laws.proofs.Narrow.{like-value}
use Rattle.nest_laws.proofs.Points.{dot-same}
use Rattle.nest_systems.specs.Sums.{number_at, stopped_product}
use Rattle.nest_systems.specs.Spans.{unit_at, unit_form}
use Rattle.nest_systems.specs.Ranges.{Names, of_none}
use Rattle.nest_systems.specs.Extents.{plus_number, raised, plus_parameter, has_name, Multiple, and_then, negative, index_layer, subscripts_layer, cell_layer, with_multiple, extent_form}
use Rattle.nest_systems.specs.Begun.{is_constant, widened, at_least_zero, sign_row, rows_unless_constant, extent_rows, array_rows, begun_rows}
use Rattle.point_laws.specs.Ranges.{IsRanged}
use Rattle.point_laws.specs.Values.{BeginsWith}
use Rattle.point_laws.specs.Begun.{BegunRowsAreMet}
use Rattle.point_laws.proofs.Seated.{number-coef, below_or_not, coef-unit, coef-other, coef-range, coef-behind_range}
use Rattle.point_laws.proofs.Alike.{coef-past}
use Rattle.point_laws.proofs.Placed.{value-variable}
use Rattle.point_laws.proofs.Values.{zero-wide, meets-append, same_or_not}

-- ---- the widths of extents
raised-length : (qs : Names) (p : List ℕ) (z : ℤ) (cs : List ℤ) → length (raised qs p z cs) ≡ length cs
raised-length [] p z cs = refl
raised-length (q ∷ qs) p z [] = refl
raised-length (q ∷ qs) p z (c ∷ cs) = ap suc (raised-length qs p z cs)

module _ (params : Names) (n : ℕ) where
  multiple_at : (e : Index) (d : Index-F Index Subscripts Cell) → out-Index e ≡ d → (z : ℤ) (f : Aff)
      → with_multiple params e z f ≡ index_layer params (map-Index Index Subscripts Cell Multiple (Unit {0}) (Unit {0}) (with_multiple params)
      (fold-Subscripts Multiple (Unit {0}) (Unit {0}) (index_layer params) subscripts_layer cell_layer) (fold-Cell Multiple (Unit {0}) (Unit {0}) (index_layer params) subscripts_layer cell_layer) d) z f
  unfolding with_multiple
  multiple_at e d h z f =
      ap (λ (m : Multiple). m z f) (fold_out-Index Multiple (Unit {0}) (Unit {0}) (index_layer params) subscripts_layer cell_layer e)
      ∙ ap (λ (d : Index-F Index Subscripts Cell). index_layer params (map-Index Index Subscripts Cell Multiple (Unit {0}) (Unit {0}) (with_multiple params)
      (fold-Subscripts Multiple (Unit {0}) (Unit {0}) (index_layer params) subscripts_layer cell_layer) (fold-Cell Multiple (Unit {0}) (Unit {0}) (index_layer params) subscripts_layer cell_layer) d) z f) h

  -- a multiple of an expression leaves a form's width
  abbrev KeepsWidth : Option Aff → Type 0
  KeepsWidth o = (g : Aff) → o ≡ Some g → length g.coefs ≡ n

  abbrev Keeps : Index → Type 0
  Keeps e = (z : ℤ) (f : Aff) → length f.coefs ≡ n → KeepsWidth (with_multiple params e z f)

  none-keeps : KeepsWidth None
  none-keeps g e = absurd cc

  some-keeps : (f : Aff) → length f.coefs ≡ n → KeepsWidth (Some f)
  some-keeps f l g e = let d : f ≡ g = cc in subst (λ (x : Aff). length x.coefs ≡ n) d l

  then-keeps : (o : Option Aff) (k : Aff → Option Aff) → KeepsWidth o → ((f : Aff) → length f.coefs ≡ n → KeepsWidth (k f)) → KeepsWidth (and_then o k)
  then-keeps (Some f) k h m = m f (h f refl)
  then-keeps None k h m = none-keeps

  if-keeps : (b : Bool) (o : Option Aff) → KeepsWidth o → KeepsWidth (cond b o None)
  if-keeps true o h = h
  if-keeps false o h = none-keeps

  by : (e : Index) (z : ℤ) (f : Aff) (o : Option Aff) → with_multiple params e z f ≡ o → KeepsWidth o → KeepsWidth (with_multiple params e z f)
  by e z f o h k = subst KeepsWidth (sym h) k

  keeps : (e : Index) → Keeps e
  keeps = induct Keeps (record {
    constant = λ m z f l. by (Const m) z f _ (multiple_at (Const m) _ (outs-Const m) z f) (some-keeps (plus_number (stopped_product z m) f) l);
    name = λ x z f l. by (Var x) z f _ (multiple_at (Var x) _ (outs-Var x) z f) (if-keeps (list_any (has_name x) params) _ (some-keeps (plus_parameter params x z f) (raised-length params x z f.coefs ∙ l)));
    cell = λ c z f l. by (At c) z f None (multiple_at (At c) _ (outs-At c) z f) none-keeps;
    negated = λ a h z f l. by (Neg a) z f _ (multiple_at (Neg a) _ (outs-Neg a) z f) (h (negative z) f l);
    sum = λ a b h k z f l. by (Plus a b) z f _ (multiple_at (Plus a b) _ (outs-Plus a b) z f) (then-keeps (with_multiple params b z f) (with_multiple params a z) (k z f l) (h z));
    difference = λ a b h k z f l. by (Minus a b) z f _ (multiple_at (Minus a b) _ (outs-Minus a b) z f) (then-keeps (with_multiple params b (negative z) f) (with_multiple params a z) (k (negative z) f l) (h z));
    product = λ m a h z f l. by (Times m a) z f _ (multiple_at (Times m a) _ (outs-Times m a) z f) (h (stopped_product z m) f l);
    lesser = λ a b h k z f l. by (Min a b) z f None (multiple_at (Min a b) _ (outs-Min a b) z f) none-keeps;
    greater = λ a b h k z f l. by (Max a b) z f None (multiple_at (Max a b) _ (outs-Max a b) z f) none-keeps;
    floor = λ a d h z f l. by (Floor a d) z f None (multiple_at (Floor a d) _ (outs-Floor a d) z f) none-keeps;
    ceil = λ a d h z f l. by (Ceil a d) z f None (multiple_at (Ceil a d) _ (outs-Ceil a d) z f) none-keeps;
  })

pub extent-wide : (params : Names) (e : Index) (f : Aff) → extent_form params e ≡ Some f → length f.coefs ≡ length params
unfolding extent_form
extent-wide params e f h = keeps params (length params) e (pos 1) (of_none params (pos 0)) (zero-wide params (pos 0)) f h

-- ---- the values of rows
same-eqb : (a b : ℕ) → a ≡ b → nat_eq a b ≡ true
same-eqb a b e = eq-eqb a b e

other-eqb : (a b : ℕ) → (a ≡ b → ⊥) → nat_eq a b ≡ false
other-eqb a b n = by (nat_eq a b) refl
  where
    by : (x : Bool) → nat_eq a b ≡ x → x ≡ false
    by true e = absurd (n (eqb-true a b e))
    by false e = refl

pub value-unit : (t vars : ℕ) (q : List ℤ) → t < vars → value q (unit_form t vars) ≡ coef t q
unfolding unit_form
value-unit t vars q l = like-value q (record { coefs = map (unit_at t) (range_with_len 0 vars); constant = pos 0 }) (variable t) like ∙ value-variable t q
  where
    at : (j : ℕ) → (j ≡ t) ⊎ (j ≡ t → ⊥) → unit_at t j ≡ coef j (variable t).coefs
    at j (inl e) = let b : nat_eq j t ≡ true = same-eqb j t e in rw b (sym (ap (λ (k : ℕ). coef k (variable t).coefs) e ∙ coef-unit t))
    at j (inr n) = let b : nat_eq j t ≡ false = other-eqb j t n in rw b (sym (coef-other j t (λ e. n (sym e))))

    like : IsLike (record { coefs = map (unit_at t) (range_with_len 0 vars); constant = pos 0 }) (variable t)
    like = record {
      coefs = λ j. elim (below_or_not j vars) [
        | inl h ↦ (let e : 0 + j ≡ j = omega arith in coef-range (unit_at t) 0 vars j h ∙ ap (unit_at t) e ∙ at j (same_or_not j t))
        | inr h ↦ coef-behind_range (unit_at t) 0 vars j h ∙ sym (coef-other j t (λ e. omega (arith, e, h, l)))
      ];
      constant = refl;
    }

pub value-widened : (vars : ℕ) (f : Aff) (q : List ℤ) → length f.coefs ≤ vars → value q (widened vars f) ≡ value q f
value-widened vars f q l = like-value q (widened vars f) f (record {
  coefs = λ j. elim (below_or_not j vars) [
    | inl h ↦ (let e : 0 + j ≡ j = omega arith in coef-range (number_at f.coefs) 0 vars j h ∙ ap (number_at f.coefs) e ∙ number-coef f.coefs j)
    | inr h ↦ coef-behind_range (number_at f.coefs) 0 vars j h ∙ sym (coef-past f.coefs j (omega (arith, l, h)))
  ];
  constant = refl;
})

-- a form of the first variables has its value at each point that begins with their values
pub begun-value : (f : Aff) (p q : List ℤ) → length f.coefs ≤ length p → BeginsWith p q → value q f ≡ value p f
begun-value f p q l b = ap (λ (z : ℤ). z +ℤ f.constant) (dot-same f.coefs q p (λ j held. elim (below_or_not j (length p)) [
  | inl h ↦ b j h
  | inr h ↦ absurd (held (coef-past f.coefs j (omega (arith, l, h))))
]))

module _ (head : Program) (made : List Made) (i : Input) (vars : ℕ) (q : List ℤ) (r : IsRanged head made i) (wide : length head.params ≤ vars) (begins : BeginsWith i.params q) where
  sign-met : (b n : ℕ) → b + n ≤ length i.params → Meets q (map (sign_row vars) (range_with_len b n))
  sign-met b zero h = tt
  sign-met b (suc n) h =
      let e = r.count in
      let v : value q (unit_form b vars) ≡ coef b i.params = value-unit b vars q (omega (arith, h, e, wide)) ∙ begins b (omega (arith, h)) in
      (subst (λ (z : ℤ). pos 0 ≤ℤ z) (sym v) (r.params b (omega (arith, h))), sign-met (b + 1) n (omega (arith, h)))

  extent-met : (a : Array) (e : Index) → IsIn a head.arrays → IsIn e a.extents → Meets q (extent_rows head.params vars e)
  extent-met a e m k = of (extent_form head.params e) refl
    where
      of : (o : Option Aff) → extent_form head.params e ≡ o → Meets q (rows_unless_constant vars o)
      of None h = tt
      of (Some f) h = pick (is_constant f)
        where
          w : length f.coefs ≡ length head.params
          w = extent-wide head.params e f h

          v : value q (widened vars f) ≡ value i.params f
          v = let c = r.count in value-widened vars f q (omega (arith, w, wide)) ∙ begun-value f i.params q (omega (arith, w, c)) begins

          pick : (b : Bool) → Meets q (cond b [] (at_least_zero (widened vars f) ∷ []))
          pick true = tt
          pick false = (subst (λ (z : ℤ). pos 0 ≤ℤ z) (sym v) (r.extents a e f m k h), tt)

  array-met : (a : Array) → IsIn a head.arrays → Meets q (array_rows head.params vars a)
  array-met a m = each a.extents (λ e k. k)
    where
      each : (es : List Index) → ((e : Index) → IsIn e es → IsIn e a.extents) → Meets q (flat_map (extent_rows head.params vars) es)
      each [] h = tt
      each (e ∷ es) h = meets-append q (extent_rows head.params vars e) (flat_map (extent_rows head.params vars) es) (extent-met a e m (h e (inl refl))) (each es (λ x k. h x (inr k)))

  arrays-met : (all : List Array) → ((a : Array) → IsIn a all → IsIn a head.arrays) → Meets q (flat_map (array_rows head.params vars) all)
  arrays-met [] h = tt
  arrays-met (a ∷ all) h = meets-append q (array_rows head.params vars a) (flat_map (array_rows head.params vars) all) (array-met a (h a (inl refl))) (arrays-met all (λ x k. h x (inr k)))

pub begun_met : BegunRowsAreMet
unfolding begun_rows
begun_met head made i vars q r wide begins =
    let c = r.count in
    meets-append q (map (sign_row vars) (range_with_len 0 (length head.params))) (flat_map (array_rows head.params vars) head.arrays)
    (sign-met head made i vars q r wide begins 0 (length head.params) (omega (arith, c)))
    (arrays-met head made i vars q r wide begins head.arrays (λ a m. m))
