-- What is printed for forms, cells, bounds, tests and right sides.
use Rattle.std.specs.Prelude.{ℕ, ◌+◌, ◌^◌, Bool, true, false, cond, nat_eq, List, [], ◌∷◌, ◌++◌, length, ℤ, pos, slice_get, slice_index_or, unsigned_abs, Option, Some, None, Result, Ok}
use Rattle.std.specs.Ordering.{int_eq}
use Rattle.std.specs.List.{list_any, filter, range_with_len}
use Rattle.c_tree.specs.declared.index.Index.{Index}
use Rattle.c_tree.specs.declared.index.Index.TheVariants as index
use Rattle.c_tree.specs.declared.index.Cell.{Cell}
use Rattle.c_tree.specs.declared.index.Subscripts.{Subscripts}
use Rattle.c_tree.specs.declared.index.Subscripts.TheVariants.{One, Two, Three}
use Rattle.c_tree.specs.declared.statement.Test.{Test}
use Rattle.c_tree.specs.declared.statement.Cmp.TheVariants.{Same, AtLeast}
use Rattle.c_tree.specs.declared.data.Expr.{Expr}
use Rattle.c_tree.specs.declared.data.Expr.TheVariants as expr
use Rattle.nest_tree.specs.declared.body.Access.{Access}
use Rattle.nest_tree.specs.declared.body.Body.{Body, fold-Body}
use Rattle.nest_tree.specs.declared.body.Body.TheOpen.{Body-F}
use Rattle.nest_tree.specs.declared.body.Body.TheOpen as body
use Rattle.nest_tree.specs.declared.kernel.Kernel.{Kernel}
use Rattle.nest_core.specs.Making.{after, each_made}
use Rattle.scan_forms.specs.declared.affine.Affine.{Affine}
use Rattle.scan_forms.specs.declared.claim.Claim.{Claim}
use Rattle.scan_forms.specs.declared.reads.Read.{Read}
use Rattle.scan_forms.specs.declared.bounds.Bound.{Bound}
use Rattle.scan_forms.specs.declared.fault.ScanFault.{ScanFault}
use Rattle.scan_forms.specs.Numbers.{number_at}
use Rattle.scan_forms.specs.Forms.{plus_one}
use Rattle.scan_forms.specs.Sums.{with_summand, with_constant, judged_size, printed_size}
use Rattle.scanning.specs.Reads.{if_held}
use Rattle.scanning.specs.Sizes.{total, sizes_from, size_there, Sizes}

abbrev pub level_name : ℕ → List ℕ
level_name depth = 116 ∷ (49 + depth) ∷ []

-- ---- forms. A statement's forms are printed with its reads in its order.
module _ (k : Kernel) (table : List Read) (order : List ℕ) (sizes : Sizes) (statement : ℕ) where
  abbrev pub size_of : Affine → ℕ
  size_of f =
      total (sizes_from (λ p. 2 ^ 24) 0 f.params) + total (sizes_from (λ q. slice_index_or sizes q 0) 0 f.levels)
      + total (sizes_from (λ i. size_there k.made (slice_get table i)) 0 f.reads) + unsigned_abs f.constant

  -- a sum with something of each
  abbrev pub over : (Option Index → ℕ → Result (Option Index) ScanFault) → List ℕ → Option Index → Result (Option Index) ScanFault
  over add [] sum = Ok sum
  over add (i ∷ is) sum = after (add sum i) (over add is)

  abbrev pub level_added : Affine → Option Index → ℕ → Result (Option Index) ScanFault
  level_added f sum q = with_summand statement sum (number_at q f.levels) (index.Var (level_name q))

  abbrev pub param_added : Affine → Option Index → ℕ → Result (Option Index) ScanFault
  param_added f sum p = with_summand statement sum (number_at p f.params) (index.Var (slice_index_or k.head.params p []))

  -- a read by its cell, of those that are printed before
  abbrev pub cell_added : Option (Result Cell ScanFault) → Option Index → ℤ → Result (Option Index) ScanFault
  cell_added (Some cell) sum z = after cell (λ c. with_summand statement sum z (index.At c))
  cell_added None sum z = Ok sum

  abbrev pub read_added : List (Result Cell ScanFault) → Affine → Option Index → ℕ → Result (Option Index) ScanFault
  read_added cells f sum i = if_held (number_at i f.reads) (λ z s. cell_added (slice_get cells i) sum z) (Ok sum)

  abbrev pub not_in_order : ℕ → Bool
  not_in_order i = cond (list_any (nat_eq i) order) false true

  -- the levels, the parameters, the statement's reads in its order, all other reads, and the constant
  abbrev pub printed_sum : List (Result Cell ScanFault) → Affine → Result Index ScanFault
  printed_sum cells f =
      after (over (level_added f) (range_with_len 0 8) None) (λ levels.
      after (over (param_added f) (range_with_len 0 (length k.head.params)) levels) (λ params.
      after (over (read_added cells f) order params) (λ own.
      after (over (read_added cells f) (filter not_in_order (range_with_len 0 (length cells))) own) (λ all.
      with_constant statement all f.constant))))

  abbrev pub printed_by : List (Result Cell ScanFault) → Affine → Result Index ScanFault
  printed_by cells f = after (printed_sum cells f) (λ e. after (judged_size statement (size_of f)) (λ u. Ok e))

  abbrev pub subscripts_of : List Index → Subscripts
  subscripts_of [] = One (index.Const (pos 0))
  subscripts_of (e ∷ []) = One e
  subscripts_of (e ∷ f ∷ []) = Two e f
  subscripts_of (e ∷ f ∷ g ∷ more) = Three e f g

  abbrev pub cell_by : List (Result Cell ScanFault) → List ℕ → List Affine → Result Cell ScanFault
  cell_by cells array forms = after (each_made (printed_by cells) forms) (λ es. Ok (record { array = array; at = subscripts_of es }))

  -- each read's cell, by those of the reads before it
  abbrev pub cells_from : List (Result Cell ScanFault) → List Read → List (Result Cell ScanFault)
  cells_from cells [] = cells
  cells_from cells (r ∷ rs) = cells_from (cells ++ cell_by cells r.array r.at ∷ []) rs

  abbrev pub form_printed : Affine → Result Index ScanFault
  form_printed f = printed_by (cells_from [] table) f

  abbrev pub cell_printed : List ℕ → List Affine → Result Cell ScanFault
  cell_printed array forms = cell_by (cells_from [] table) array forms

  -- ---- bounds, each with its size
  abbrev pub lower_printed : Bound → Result (Index × ℕ) ScanFault
  lower_printed b = after (form_printed b.form) (λ e. elim (int_eq b.divisor (pos 1)) as (λ c. Result (Index × ℕ) ScanFault) [
    | true ↦ Ok (e, size_of b.form)
    | false ↦ after (printed_size statement b.divisor) (λ d. Ok (index.Ceil e d, size_of b.form))
  ])

  -- 1 more than the greatest integer that isn't above the quotient
  abbrev pub quotient_printed : Bound → Result (Index × ℕ) ScanFault
  quotient_printed b =
      after (judged_size statement (size_of b.form + 1)) (λ u. after (printed_size statement b.divisor) (λ d. after (form_printed b.form) (λ e.
      Ok (index.Plus (index.Floor e d) (index.Const (pos 1)), size_of b.form + 1))))

  abbrev pub upper_printed : Bound → Result (Index × ℕ) ScanFault
  upper_printed b = elim (int_eq b.divisor (pos 1)) as (λ c. Result (Index × ℕ) ScanFault) [
    | true ↦ after (form_printed (plus_one b.form)) (λ e. Ok (e, size_of (plus_one b.form)))
    | false ↦ quotient_printed b
  ]

  -- ---- tests: form >= 0, or form == 0
  abbrev pub test_printed : Claim → Result Test ScanFault
  test_printed c = after (form_printed c.form) (λ e. Ok (record { left = e; cmp = cond c.equal Same AtLeast; right = index.Const (pos 0) }))

  abbrev pub tests_printed : List Claim → Result (List Test) ScanFault
  tests_printed cs = each_made test_printed cs

  -- ---- right sides, from the left; access tells a cell's subscripts over the table
  abbrev pub body_layer : (Access → List Affine) → Body-F (Result Expr ScanFault) → Result Expr ScanFault
  body_layer at (body.Const c) = Ok (expr.Const c)
  body_layer at (body.At a) = after (cell_printed a.array (at a)) (λ c. Ok (expr.At c))
  body_layer at (body.Plus a b) = after a (λ x. after b (λ y. Ok (expr.Plus x y)))
  body_layer at (body.Minus a b) = after a (λ x. after b (λ y. Ok (expr.Minus x y)))
  body_layer at (body.Times a b) = after a (λ x. after b (λ y. Ok (expr.Times x y)))

  abbrev pub body_printed : (Access → List Affine) → Body → Result Expr ScanFault
  body_printed at = fold-Body (Result Expr ScanFault) (body_layer at)
