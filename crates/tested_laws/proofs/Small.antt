-- Before any command has made an array, the numbers of value ranges are -1, 0 and 1.
use Rattle.std.proofs.Common.{◌≡◌, ◌⊎◌, inl, inr, ℕ, zero, suc, ◌+◌, Bool, true, false, cond, List, [], ◌∷◌, ◌++◌, map, length, replicate, refl, sym, ◌∙◌, subst, ℤ, pos, negsuc, bytes_eq}
use Rattle.std.specs.Prelude.{Option, Some, None, slice_get}
use Rattle.std.specs.List.{list_all, flat_map, range_with_len}
use Rattle.chill_base.proofs.Each.{each-append}
use Rattle.c_tree.specs.declared.program.Matrix.{Matrix}
use Rattle.c_tree.specs.declared.program.Program.{Program}
use Rattle.int_rows.specs.Systems.{IsRowOf}
use Rattle.nest_core.specs.Numbers.{is_small}
use Rattle.nest_tree.specs.declared.kernel.Term.{Term}
use Rattle.nest_tree.specs.declared.made.Made.{Made}
use Rattle.nest_tree.specs.Forms.{coef}
use Rattle.nest_laws.proofs.Points.{length-map}
use Rattle.nest_systems.specs.declared.range.Span.{Span}
use Rattle.nest_systems.specs.Parts.{span_rows, term_rows, rows_of_term, value_rows}
use Rattle.nest_systems.specs.Ranges.{Names, coef_of, of_two, of_one, of_none, from_zero, to_one, matrix_value_span, first_span, value_span}
use Rattle.nest_systems.specs.Spans.{unit_if, unit_at, is_there, low_number, high_number, low_row, high_row, unit_form}
use Rattle.nest_systems.specs.Sums.{number_at, stopped_sum, stopped_difference, stopped_product}
use Rattle.point_laws.proofs.Seated.{below_or_not, number-coef, coef-range, coef-behind_range}
use Rattle.point_laws.proofs.Values.{length-range}
use Rattle.point_laws.specs.Values.{AreSmall}
use Rattle.tested_laws.specs.Testing.{NothingMadeHasSmallRanges}

abbrev IsBit : ℤ → Type 0
IsBit z = (z ≡ pos 0) ⊎ (z ≡ pos 1)

-- ---- the numbers of a row
unit-bit : (b : Bool) → IsBit (unit_if b)
unit-bit true = inr refl
unit-bit false = inl refl

variable-bit : (t vars v : ℕ) → IsBit (number_at (unit_form t vars).coefs v)
unfolding unit_form
variable-bit t vars v = elim (below_or_not v vars) [
  | inl l ↦ subst IsBit (sym (number-coef (map (unit_at t) (range_with_len 0 vars)) v ∙ coef-range (unit_at t) 0 vars v l)) (unit-bit _)
  | inr l ↦ inl (number-coef (map (unit_at t) (range_with_len 0 vars)) v ∙ coef-behind_range (unit_at t) 0 vars v l)
]

coef-zeros : (n v : ℕ) → coef v (replicate n (pos 0)) ≡ pos 0
coef-zeros zero v = refl
coef-zeros (suc n) zero = refl
coef-zeros (suc n) (suc v) = coef-zeros n v

coef-bit : (g : List ℕ → ℤ) → ((p : List ℕ) → IsBit (g p)) → (ps : Names) (v : ℕ) → IsBit (coef v (map g ps))
coef-bit g h [] v = inl refl
coef-bit g h (p ∷ ps) zero = h p
coef-bit g h (p ∷ ps) (suc v) = coef-bit g h ps v

named-bit : (a p : List ℕ) → IsBit (coef_of a (pos 1) a (pos 0) p)
unfolding coef_of stopped_sum
named-bit a p = by (bytes_eq p a)
  where
    by : (b : Bool) → IsBit (stopped_sum (cond b (pos 1) (pos 0)) (cond b (pos 0) (pos 0)))
    by true = inr refl
    by false = inl refl

low-small : (x y : ℤ) → x ≡ pos 0 → IsBit y → is_small (stopped_sum x (stopped_product (pos 1) y)) ≡ true
unfolding stopped_sum stopped_product
low-small x y a (inl b) = rw (a, b) refl
low-small x y a (inr b) = rw (a, b) refl

high-small : (x y : ℤ) (c : Bool) → IsBit x → IsBit y → is_small (stopped_sum (stopped_difference x (stopped_product (pos 1) y)) (unit_if c)) ≡ true
unfolding stopped_sum stopped_difference stopped_product
high-small x y true (inl a) (inl b) = rw (a, b) refl
high-small x y true (inl a) (inr b) = rw (a, b) refl
high-small x y true (inr a) (inl b) = rw (a, b) refl
high-small x y true (inr a) (inr b) = rw (a, b) refl
high-small x y false (inl a) (inl b) = rw (a, b) refl
high-small x y false (inl a) (inr b) = rw (a, b) refl
high-small x y false (inr a) (inl b) = rw (a, b) refl
high-small x y false (inr a) (inr b) = rw (a, b) refl

-- ---- a row whose numbers are within the limit
all-small : (g : ℕ → ℤ) (c : ℤ) → ((v : ℕ) → is_small (g v) ≡ true) → is_small c ≡ true → (b n : ℕ) → list_all is_small (map g (range_with_len b n) ++ c ∷ []) ≡ true
all-small g c h k b zero = rw k refl
all-small g c h k b (suc n) = rw (h b, all-small g c h k (b + 1) n) refl

row-small : (g : ℕ → ℤ) (c : ℤ) (vars : ℕ) → ((v : ℕ) → is_small (g v) ≡ true) → is_small c ≡ true
    → IsRowOf vars (record { equal = false; form = record { coefs = map g (range_with_len 0 vars); constant = c } })
row-small g c vars h k = record { width = length-map g (range_with_len 0 vars) ∙ length-range 0 vars; small = all-small g c h k 0 vars }

-- ---- the ranges of a signature's index arrays: from 0 to a parameter, or to one less
abbrev IsLast : ℤ → Type 0
IsLast z = (z ≡ pos 0) ⊎ (z ≡ negsuc 0)

record IsNamed (params : Names) (s : Span) : Type 0 where
  name : List ℕ
  last : ℤ
  few : IsLast last
  is : s ≡ to_one params name last

named : (params : Names) (ms : List Matrix) (array : List ℕ) (s : Span) → matrix_value_span params ms array ≡ Some s → IsNamed params s
named params [] array s e = absurd cc
named params (m ∷ ms) array s e = by (bytes_eq array m.index) (bytes_eq array m.col) (named params ms array s) e
  where
    by : (b c : Bool) → (matrix_value_span params ms array ≡ Some s → IsNamed params s)
        → cond b (Some (to_one params m.count (pos 0))) (cond c (Some (to_one params m.cols (negsuc 0))) (matrix_value_span params ms array)) ≡ Some s → IsNamed params s
    by true c more e = record { name = m.count; last = pos 0; few = inl refl; is = cc }
    by false true more e = record { name = m.cols; last = negsuc 0; few = inr refl; is = cc }
    by false false more e = more e

named-value : (head : Program) (array : List ℕ) (s : Span) → value_span head [] array ≡ Some s → IsNamed head.params s
unfolding value_span
named-value head array s e = by (matrix_value_span head.params head.matrices array) refl e
  where
    by : (o : Option Span) → matrix_value_span head.params head.matrices array ≡ o → first_span o None ≡ Some s → IsNamed head.params s
    by (Some t) d e = named head.params head.matrices array s (d ∙ e)
    by None d e = absurd cc

module _ (params : Names) (name : List ℕ) (last : ℤ) (few : IsLast last) (t vars : ℕ) where
  abbrev span : Span
  span = to_one params name last

  low-is_small : IsRowOf vars (low_row span (unit_form t vars) vars)
  unfolding low_row low_number from_zero of_none unit_form
  low-is_small =
      row-small (low_number span (unit_form t vars).coefs) _ vars
      (λ v. low-small (number_at (replicate (length params) (pos 0)) v) (number_at (unit_form t vars).coefs v) (number-coef (replicate (length params) (pos 0)) v ∙ coef-zeros (length params) v) (variable-bit t vars v))
      (low-small (pos 0) (pos 0) refl (inl refl))

  last-small : IsLast last → is_small (stopped_difference last (stopped_product (pos 1) (pos 0))) ≡ true
  unfolding stopped_difference stopped_product
  last-small (inl e) = rw e refl
  last-small (inr e) = rw e refl

  high-is_small : (c : Option ℕ) → IsRowOf vars (high_row span (unit_form t vars) c vars)
  unfolding high_row high_number from_zero of_one of_two unit_form
  high-is_small c =
      row-small (high_number span (unit_form t vars).coefs c) _ vars
      (λ v. high-small (number_at (map (coef_of name (pos 1) name (pos 0)) params) v) (number_at (unit_form t vars).coefs v) (is_there v c)
      (subst IsBit (sym (number-coef (map (coef_of name (pos 1) name (pos 0)) params) v)) (coef-bit (coef_of name (pos 1) name (pos 0)) (named-bit name) params v)) (variable-bit t vars v))
      (last-small few)

-- ---- all ranges
module _ (head : Program) (first : ℕ) (terms : List Term) where
  term-small : (t : ℕ) → AreSmall (first + length terms) (rows_of_term head [] first terms t)
  term-small t = by (slice_get terms t)
    where
      rows : (o : Option Span) → ((s : Span) → o ≡ Some s → IsNamed head.params s) → AreSmall (first + length terms) (span_rows first terms (unit_form (first + t) (first + length terms)) o)
      rows None h = tt
      rows (Some s) h =
          let n = h s refl in
          subst (λ (x : Span). AreSmall (first + length terms) (span_rows first terms (unit_form (first + t) (first + length terms)) (Some x))) (sym n.is)
          (low-is_small head.params n.name n.last n.few (first + t) (first + length terms), (high-is_small head.params n.name n.last n.few (first + t) (first + length terms) _, tt))

      by : (o : Option Term) → AreSmall (first + length terms) (term_rows head [] first terms t o)
      by None = tt
      by (Some u) = rows (value_span head [] u.array) (named-value head u.array)

  all-terms : (order : List ℕ) → AreSmall (first + length terms) (flat_map (rows_of_term head [] first terms) order)
  all-terms [] = tt
  all-terms (t ∷ order) = each-append (IsRowOf (first + length terms)) (rows_of_term head [] first terms t) (flat_map (rows_of_term head [] first terms) order) (term-small t) (all-terms order)

  values-small : (order : List ℕ) → AreSmall (first + length terms) (value_rows head [] first terms order)
  unfolding value_rows
  values-small order = all-terms order

pub small_ranges : NothingMadeHasSmallRanges
small_ranges k moves none x s a h =
    let first : ℕ = length k.head.params + length (x.new).levels in
    let all : AreSmall (first + length s.instance.terms) (value_rows k.head k.made first s.instance.terms s.instance.chosen.order) =
    subst (λ (made : List Made). AreSmall (first + length s.instance.terms) (value_rows k.head made first s.instance.terms s.instance.chosen.order)) (sym none) (values-small k.head first s.instance.terms s.instance.chosen.order) in
    subst (AreSmall (first + length s.instance.terms)) (sym (h.part).ranges) all
