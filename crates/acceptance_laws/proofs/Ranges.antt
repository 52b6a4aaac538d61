-- The rows of a system are as wide as it has variables, and the numbers of matrices' value ranges are within the limit.
use Rattle.std.proofs.Common.{◌≡◌, ℕ, zero, suc, ◌+◌, Bool, true, false, cond, List, [], ◌∷◌, ◌++◌, map, length, replicate, refl, sym, ◌∙◌, subst, ℤ, pos, negsuc, bytes_eq, nat_eq}
use Rattle.std.specs.Prelude.{Option, Some, None, slice_get}
use Rattle.std.specs.List.{AllByRecursion, list_all, flat_map, range_with_len}
use Rattle.c_tree.specs.declared.index.Index.{Index}
use Rattle.c_tree.specs.declared.program.Array.{Array}
use Rattle.c_tree.specs.declared.program.Matrix.{Matrix}
use Rattle.c_tree.specs.declared.program.Program.{Program}
use Rattle.int_rows.specs.declared.row.Aff.{Aff}
use Rattle.int_rows.specs.declared.row.Row.{Row}
use Rattle.int_rows.specs.Rows.{numbers}
use Rattle.int_rows.specs.Systems.{IsRowOf}
use Rattle.nest_core.specs.Numbers.{is_small}
use Rattle.nest_tree.specs.declared.kernel.Term.{Term}
use Rattle.nest_tree.specs.Forms.{coef}
use Rattle.nest_laws.proofs.Points.{length-map}
use Rattle.nest_systems.specs.declared.range.Span.{Span}
use Rattle.nest_systems.specs.Begun.{is_constant, widened, at_least_zero, sign_row, rows_unless_constant, extent_rows, array_rows, begun_rows}
use Rattle.nest_systems.specs.Extents.{extent_form}
use Rattle.nest_systems.specs.Parts.{span_rows, term_rows, rows_of_term, value_rows}
use Rattle.nest_systems.specs.Ranges.{Names, times_if, coef_of, of_two, of_one, of_none, from_zero, to_one, matrix_value_span, first_span, value_span}
use Rattle.nest_systems.specs.Spans.{low_number, high_number, low_row, high_row, unit_at, unit_form}
use Rattle.nest_systems.specs.Sums.{stopped_sum, stopped_difference, stopped_product, number_at}
use Rattle.point_laws.specs.Seats.{Seats, seated_number, placed, placed_row}
use Rattle.point_laws.specs.Values.{AreSmall}
use Rattle.point_laws.proofs.Seated.{number-coef}
use Rattle.point_laws.proofs.Values.{length-range}
use Rattle.acceptance_laws.proofs.Rows.{all-both}

-- ---- widths
abbrev pub HasWidth : ℕ → Row → Type 0
HasWidth vars r = length (r.form).coefs ≡ vars

abbrev pub HasSmall : Row → Type 0
HasSmall r = list_all is_small (numbers r.form) ≡ true

range-wide : (vars : ℕ) (g : ℕ → ℤ) → length (map g (range_with_len 0 vars)) ≡ vars
range-wide vars g = length-map g (range_with_len 0 vars) ∙ length-range 0 vars

unit-wide : (v vars : ℕ) → length (unit_form v vars).coefs ≡ vars
unfolding unit_form
unit-wide v vars = range-wide vars (unit_at v)

pub begun-wide : (head : Program) (vars : ℕ) → AllByRecursion (HasWidth vars) (begun_rows head vars)
unfolding begun_rows
begun-wide head vars = all-both (HasWidth vars) (map (sign_row vars) (range_with_len 0 (length head.params))) (flat_map (array_rows head.params vars) head.arrays) (signs (range_with_len 0 (length head.params))) (arrays head.arrays)
  where
    unit : (v : ℕ) → HasWidth vars (sign_row vars v)
    unit v = unit-wide v vars

    signs : (vs : List ℕ) → AllByRecursion (HasWidth vars) (map (sign_row vars) vs)
    signs [] = tt
    signs (v ∷ vs) = (unit v, signs vs)

    one : (o : Option Aff) → AllByRecursion (HasWidth vars) (rows_unless_constant vars o)
    one None = tt
    one (Some f) = by (is_constant f)
      where
        by : (b : Bool) → AllByRecursion (HasWidth vars) (cond b [] (at_least_zero (widened vars f) ∷ []))
        by true = tt
        by false = (range-wide vars (number_at f.coefs), tt)

    extents : (es : List Index) → AllByRecursion (HasWidth vars) (flat_map (extent_rows head.params vars) es)
    extents [] = tt
    extents (e ∷ es) = all-both (HasWidth vars) (extent_rows head.params vars e) (flat_map (extent_rows head.params vars) es) (one (extent_form head.params e)) (extents es)

    arrays : (bs : List Array) → AllByRecursion (HasWidth vars) (flat_map (array_rows head.params vars) bs)
    arrays [] = tt
    arrays (a ∷ bs) = all-both (HasWidth vars) (array_rows head.params vars a) (flat_map (array_rows head.params vars) bs) (extents a.extents) (arrays bs)

pub placed-wide : (s : Seats) (rows : List Row) → AllByRecursion (HasWidth s.vars) (map (placed_row s) rows)
unfolding placed
placed-wide s [] = tt
placed-wide s (r ∷ rows) = (range-wide s.vars (seated_number s (r.form).coefs), placed-wide s rows)

pub are-small : (vars : ℕ) (rows : List Row) → AllByRecursion (HasWidth vars) rows → AllByRecursion HasSmall rows → AreSmall vars rows
are-small vars [] h k = tt
are-small vars (r ∷ rows) h k = (record { width = h.0; small = k.0 }, are-small vars rows h.1 k.1)

-- ---- -1, 0 and 1
data Tiny : ℤ → Type 0 where
  lower : Tiny (negsuc 0)
  none : Tiny (pos 0)
  upper : Tiny (pos 1)

low-small : (a b : ℤ) → Tiny a → Tiny b → is_small (stopped_sum a (stopped_product (pos 1) b)) ≡ true
unfolding stopped_sum stopped_product
low-small _ _ lower lower = refl
low-small _ _ lower none = refl
low-small _ _ lower upper = refl
low-small _ _ none lower = refl
low-small _ _ none none = refl
low-small _ _ none upper = refl
low-small _ _ upper lower = refl
low-small _ _ upper none = refl
low-small _ _ upper upper = refl

high-small : (a b : ℤ) → Tiny a → Tiny b → is_small (stopped_sum (stopped_difference a (stopped_product (pos 1) b)) (pos 0)) ≡ true
unfolding stopped_sum stopped_difference stopped_product
high-small _ _ lower lower = refl
high-small _ _ lower none = refl
high-small _ _ lower upper = refl
high-small _ _ none lower = refl
high-small _ _ none none = refl
high-small _ _ none upper = refl
high-small _ _ upper lower = refl
high-small _ _ upper none = refl
high-small _ _ upper upper = refl

top-small : (a : ℤ) → Tiny a → is_small (stopped_difference a (stopped_product (pos 1) (pos 0))) ≡ true
unfolding stopped_difference stopped_product
top-small _ lower = refl
top-small _ none = refl
top-small _ upper = refl

tiny-number : (zs : List ℤ) (k : ℕ) → AllByRecursion Tiny zs → Tiny (number_at zs k)
tiny-number zs k h = subst Tiny (sym (number-coef zs k)) (at zs k h)
  where
    at : (zs : List ℤ) (k : ℕ) → AllByRecursion Tiny zs → Tiny (coef k zs)
    at [] k h = none
    at (z ∷ zs) zero h = h.0
    at (z ∷ zs) (suc k) h = at zs k h.1

tiny-map : {A : Type 0} (F : A → ℤ) → ((x : A) → Tiny (F x)) → (xs : List A) → AllByRecursion Tiny (map F xs)
tiny-map F h [] = tt
tiny-map F h (x ∷ xs) = (h x, tiny-map F h xs)

tiny-zeros : (n : ℕ) → AllByRecursion Tiny (replicate n (pos 0))
tiny-zeros zero = tt
tiny-zeros (suc n) = (none, tiny-zeros n)

tiny-if : (b : Bool) → Tiny (cond b (pos 1) (pos 0))
tiny-if true = upper
tiny-if false = none

tiny-coef : (a p : List ℕ) → Tiny (coef_of a (pos 1) a (pos 0) p)
unfolding coef_of stopped_sum
tiny-coef a p = by (bytes_eq p a)
  where
    by : (b : Bool) → Tiny (stopped_sum (times_if b (pos 1)) (times_if b (pos 0)))
    by true = upper
    by false = none

-- ---- value ranges
data IsTo (params : Names) : Span → Type 0 where
  to : (name : List ℕ) (k : ℤ) → Tiny k → IsTo params (to_one params name k)

-- a matrix's array has a range from 0 to a parameter
matrix-to : (params : Names) (ms : List Matrix) (array : List ℕ) (s : Span) → matrix_value_span params ms array ≡ Some s → IsTo params s
matrix-to params [] array s e = absurd cc
matrix-to params (m ∷ ms) array s e = by (bytes_eq array m.index) (bytes_eq array m.col) e (matrix-to params ms array s)
  where
    is : (t : Span) → IsTo params t → Some t ≡ Some s → IsTo params s
    is t h e = let d : t ≡ s = cc in subst (IsTo params) d h

    by : (b d : Bool) → cond b (Some (to_one params m.count (pos 0))) (cond d (Some (to_one params m.cols (negsuc 0))) (matrix_value_span params ms array)) ≡ Some s
        → (matrix_value_span params ms array ≡ Some s → IsTo params s) → IsTo params s
    by true d e more = is (to_one params m.count (pos 0)) (to m.count (pos 0) none) e
    by false true e more = is (to_one params m.cols (negsuc 0)) (to m.cols (negsuc 0) lower) e
    by false false e more = more e

row-small : (vars : ℕ) (g : ℕ → ℤ) (c : ℤ) → ((v : ℕ) → is_small (g v) ≡ true) → is_small c ≡ true → IsRowOf vars (record { equal = false; form = record { coefs = map g (range_with_len 0 vars); constant = c } })
row-small vars g c h k = record { width = range-wide vars g; small = all (range_with_len 0 vars) }
  where
    all : (vs : List ℕ) → list_all is_small (map g vs ++ c ∷ []) ≡ true
    all [] = rw k refl
    all (v ∷ vs) = rw (h v) (all vs)

module _ (head : Program) (first : ℕ) (terms : List Term) where
  abbrev vars : ℕ
  vars = first + length terms

  unit-tiny : (t : ℕ) → AllByRecursion Tiny (unit_form t vars).coefs
  unfolding unit_form
  unit-tiny t = tiny-map (unit_at t) (λ v. tiny-if (nat_eq v t)) (range_with_len 0 vars)

  span-small : (t : ℕ) (s : Span) → IsTo head.params s → AreSmall vars (span_rows first terms (unit_form (first + t) vars) (Some s))
  unfolding low_row high_row low_number high_number from_zero of_one of_two of_none unit_form
  span-small t _ (to name k h) =
      let cs : List ℤ = (unit_form (first + t) vars).coefs in
      let unit = unit-tiny (first + t) in (
        row-small vars _ _ (λ v. low-small _ _ (tiny-number (replicate (length head.params) (pos 0)) v (tiny-zeros (length head.params))) (tiny-number cs v unit)) (low-small (pos 0) (pos 0) none none),
        (
          row-small vars _ _ (λ v. high-small _ _ (tiny-number (map (coef_of name (pos 1) name (pos 0)) head.params) v (tiny-map (coef_of name (pos 1) name (pos 0)) (tiny-coef name) head.params)) (tiny-number cs v unit)) (top-small k h),
          tt,
        ),
      )

  term-small : (t : ℕ) (o : Option Term) → AreSmall vars (term_rows head [] first terms t o)
  unfolding value_span
  term-small t None = tt
  term-small t (Some u) = by (matrix_value_span head.params head.matrices u.array) refl
    where
      by : (o : Option Span) → matrix_value_span head.params head.matrices u.array ≡ o → AreSmall vars (span_rows first terms (unit_form (first + t) vars) (first_span o None))
      by None e = tt
      by (Some s) e = span-small t s (matrix-to head.params head.matrices u.array s e)

  -- where no array is made, all value ranges have small numbers
  pub ranges-small : (order : List ℕ) → AreSmall vars (value_rows head [] first terms order)
  unfolding value_rows
  ranges-small [] = tt
  ranges-small (t ∷ order) = all-both (IsRowOf vars) (rows_of_term head [] first terms t) (flat_map (rows_of_term head [] first terms) order) (term-small t (slice_get terms t)) (ranges-small order)
