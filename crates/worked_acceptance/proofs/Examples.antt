-- Worked sources, computed.
use Rattle.std.proofs.Common.{◌≡◌, ℤ, map, cond, pos, cond, List, [], ◌∷◌, ap, ◌∙◌, refl, None, Some}
use Rattle.c_tree.specs.declared.index.Index.{Index, Index-F, fold_out-Index, map-Index, out-Index}
use Rattle.c_tree.specs.declared.index.Index.TheVariants.{Const, Var, Plus, At, outs-Const, outs-Var, outs-Plus}
use Rattle.c_tree.specs.declared.index.Subscripts.{Subscripts}
use Rattle.c_tree.specs.declared.index.Cell.{Cell}
use Rattle.c_meaning.specs.Names.{Name}
use Rattle.c_meaning.specs.Examples.{b, c, i, n}
use Rattle.nest_systems.specs.Ranges.{Names, of_none, of_one, of_two, coef_of, from_zero, value_span}
use Rattle.nest_systems.specs.Begun.{begun_rows}
use Rattle.nest_systems.specs.Choosing.{are_equal, meet_term, chosen_of, with_counts}
use Rattle.nest_systems.specs.Parts.{value_rows, extended_terms}
use Rattle.nest_systems.specs.Placing.{small_total}
use Rattle.nest_systems.specs.Sums.{number_at, stopped_sum, stopped_difference, stopped_product}
use Rattle.nest_systems.specs.Spans.{unit_form, low_number, high_number, low_row, high_row}
use Rattle.int_rows.specs.Systems.{pushed, excluded}
use Rattle.int_rows.specs.Exclusion.{exclusion, is_impossible}
use Rattle.int_rows.specs.Elimination.{elimination, merged, made, paired, made_small, outcome, reduced, canceled}
use Rattle.int_rows.specs.Gcd.{gcd, gcd_of}
use Rattle.acceptance.specs.Judged.{Judged, first}
use Rattle.acceptance.specs.Limits.{limits}
use Rattle.acceptance.specs.Brackets.{bracketed, bracketed_layer}
use Rattle.acceptance.specs.Inside.{accesses}
use Rattle.c_tree.specs.declared.data.Expr.TheOpen
use Rattle.c_tree.specs.declared.data.Expr.{Expr}
use Rattle.c_tree.specs.declared.data.Expr.TheVariants as expr
use Rattle.std.specs.List.{list_any}
use Rattle.int_rows.specs.declared.row.Aff.{Aff}
use Rattle.source_limits.specs.declared.fault.Side.TheVariants.{Past}
use Rattle.source_limits.specs.declared.fault.SourceFault.TheVariants.{Outside}
use Rattle.nest_systems.specs.Extents.{Multiple, with_multiple, extent_form, plus_number, plus_parameter, has_name, and_then, index_layer, subscripts_layer, cell_layer}
use Rattle.point_laws.specs.Seats.{seated_number, placed}
use Rattle.acceptance.specs.Accepted.{refusal, statements, asked_in}
use Rattle.c_tree.specs.declared.data.Expr.TheVariants.{At as Load, outs-At}
use Rattle.c_tree.specs.declared.statement.How.TheVariants.{Write}
use Rattle.acceptance.specs.Expressions.{number, name, one, plus, plain, plains}
use Rattle.acceptance.specs.Forms.{Vars}
use Rattle.acceptance.specs.Rows.{body_of, access_of}
use Rattle.nest_tree.specs.declared.body.Body.TheVariants as body
use Rattle.c_tree.specs.declared.index.Subscripts.TheVariants.{One}
use Rattle.executors.specs.Executors.{done, assign, loop}
use Rattle.acceptance.specs.Visits.{Visit, visit, bounds, visits, outside}
use Rattle.acceptance.specs.Around.{cells_of}
use Rattle.worked_acceptance.specs.Examples.{cell, copy_of, copying, CopyIsAccepted, NextCellIsRefused, product, product_executor, multiplying, rows_at, low, high, value, first_of, col, a, x, y, k, m, z, ProductIsKept}
use Rattle.executors.proofs.Equations.{front-For, front-Assign}
use Rattle.acceptance.proofs.Equations.{plain-Const, plain-Var, plain-Plus, plains-One, plain-At, cells-At, cells-Times, bracketed_at, body-At, body-Times}

abbrev asked : Index → List Visit
asked e = visits (loop i (Const (pos 0)) (Var n) (assign (cell b (Var i)) Write (Load (cell c e)) done) done) outside

multiple-Var : (params : Names) (p : Name) → with_multiple params (Var p) ≡ index_layer params (map-Index Index Subscripts Cell Multiple (Unit {0}) (Unit {0}) (with_multiple params) (λ s. tt) (λ c. tt) (out-Index (Var p)))
unfolding with_multiple
multiple-Var params p = fold_out-Index Multiple (Unit {0}) (Unit {0}) (index_layer params) subscripts_layer cell_layer (Var p)

copy_asked : (e : Index) → asked_in (copy_of e) ≡ asked e
copy_asked e = simp (front-For, front-Assign)

copy_statements : statements (copy_of (Var i)) (asked_in (copy_of (Var i))) ≡ copying ∷ []
copy_statements = ap (statements (copy_of (Var i))) (copy_asked (Var i)) ∙ simp (plain-Const, plain-Var, plains-One, cells-At, body-At)

extent_n : extent_form (n ∷ []) (Var n) ≡ Some (record { coefs = pos 1 ∷ []; constant = pos 0 })
unfolding extent_form of_none stopped_sum
extent_n = ap (λ (m : Multiple). m (pos 1) (of_none (n ∷ []) (pos 0))) (multiple-Var (n ∷ []) n) ∙ ap (λ d. index_layer (n ∷ []) (map-Index Index Subscripts Cell Multiple (Unit {0}) (Unit {0}) (with_multiple (n ∷ [])) (λ s. tt) (λ c. tt) d) (pos 1) (of_none (n ∷ []) (pos 0))) (outs-Var n)

pub bracketed-At : (x : Cell) → bracketed (Load x) ≡ bracketed_layer (TheOpen.At x)
bracketed-At x = bracketed_at (Load x) _ (outs-At x)

copy_limits : first (map (limits (copy_of (Var i))) (asked (Var i))) ≡ None
unfolding first
copy_limits = simp (plain-Const, plain-Var, plains-One, cells-At, bracketed-At)

copy_accesses : first (map (accesses (copy_of (Var i))) (asked (Var i))) ≡ None
unfolding first begun_rows are_equal meet_term chosen_of with_counts value_rows extended_terms small_total placed seated_number number_at unit_form low_number high_number low_row high_row stopped_sum stopped_difference stopped_product pushed excluded exclusion is_impossible elimination merged made paired made_small outcome reduced canceled gcd gcd_of value_span of_none
copy_accesses = simp (plain-Const, plain-Var, plains-One, cells-At, extent_n)

copy_refusal : (e : Index) (l a : Judged) → first (map (limits (copy_of e)) (asked e)) ≡ l → first (map (accesses (copy_of e)) (asked e)) ≡ a → refusal (copy_of e) ≡ first (l ∷ a ∷ [])
unfolding first
copy_refusal e l a h k = simp (extent_n, copy_asked, h, k)

plains-next : plains (One (Plus (Var i) (Const (pos 1)))) ≡ plus (name i) (number (pos 1)) ∷ []
plains-next = simp (plain-Const, plain-Var, plain-Plus, plains-One)

pub plains-name : (y : Name) → plains (One (Var y)) ≡ name y ∷ []
plains-name y = simp (plain-Var, plains-One)

next_limits : first (map (limits (copy_of (Plus (Var i) (Const (pos 1))))) (asked (Plus (Var i) (Const (pos 1))))) ≡ None
unfolding first
next_limits = simp (plain-Const, plain-Var, plain-Plus, plains-One, cells-At, bracketed-At)

next_accesses : first (map (accesses (copy_of (Plus (Var i) (Const (pos 1))))) (asked (Plus (Var i) (Const (pos 1))))) ≡ Some (Outside 0 c Past)
unfolding first begun_rows are_equal meet_term chosen_of with_counts value_rows extended_terms small_total placed seated_number number_at unit_form low_number high_number low_row high_row stopped_sum stopped_difference stopped_product pushed excluded exclusion is_impossible elimination merged made paired made_small outcome reduced canceled gcd gcd_of value_span of_none
next_accesses = simp (plain-Const, plain-Var, plains-next, plains-name, cells-At, extent_n)

pub copy_accepted : CopyIsAccepted
unfolding first
copy_accepted = (copy_refusal (Var i) None None copy_limits copy_accesses, copy_statements)

pub next_refused : NextCellIsRefused
unfolding first
next_refused = copy_refusal (Plus (Var i) (Const (pos 1))) None (Some (Outside 0 c Past)) next_limits next_accesses

-- ## A product with a sparse matrix

multiple_of : (params : Names) (e : Index) (d : Index-F Index Subscripts Cell) → out-Index e ≡ d → (z : ℤ) (f : Aff) → with_multiple params e z f ≡ index_layer params (map-Index Index Subscripts Cell Multiple (Unit {0}) (Unit {0}) (with_multiple params) (λ s. tt) (λ c. tt) d) z f
unfolding with_multiple
multiple_of params e d h z f =
    ap (λ (m : Multiple). m z f) (fold_out-Index Multiple (Unit {0}) (Unit {0}) (index_layer params) subscripts_layer cell_layer e)
    ∙ ap (λ d. index_layer params (map-Index Index Subscripts Cell Multiple (Unit {0}) (Unit {0}) (with_multiple params) (λ s. tt) (λ c. tt) d) z f) h

extent_of : (params : Names) (e : Index) → extent_form params e ≡ with_multiple params e (pos 1) (of_none params (pos 0))
unfolding extent_form
extent_of params e = refl

multiple-Const : (params : Names) (k z : ℤ) (f : Aff) → with_multiple params (Const k) z f ≡ Some (plus_number (stopped_product z k) f)
multiple-Const params k z f = multiple_of params (Const k) _ (outs-Const k) z f

multiple-Name : (params : Names) (p : Name) (z : ℤ) (f : Aff) → with_multiple params (Var p) z f ≡ cond (list_any (has_name p) params) (Some (plus_parameter params p z f)) None
multiple-Name params p z f = multiple_of params (Var p) _ (outs-Var p) z f

multiple-Plus : (params : Names) (a b : Index) (z : ℤ) (f : Aff) → with_multiple params (Plus a b) z f ≡ and_then (with_multiple params b z f) (with_multiple params a z)
multiple-Plus params a b z f = multiple_of params (Plus a b) _ (outs-Plus a b) z f

pub plain-low : plain low ≡ one first_of (name i)
plain-low = simp (plain-At, plains-One, plain-Var)

pub plain-high : plain high ≡ one first_of (plus (name i) (number (pos 1)))
plain-high = simp (plain-At, plains-One, plain-Var, plain-Plus, plain-Const)

plains-column : plains (One (At (cell col (Var k)))) ≡ one col (name k) ∷ []
plains-column = simp (plain-At, plains-One, plain-Var)

cells-value : cells_of value ≡ cell a (Var k) ∷ cell x (At (cell col (Var k))) ∷ []
cells-value = simp (cells-At, cells-Times)

body-value : (v : Vars) → body_of v value ≡ body.Times (body.At (access_of v (cell a (Var k)))) (body.At (access_of v (cell x (At (cell col (Var k))))))
body-value v = simp (body-At, body-Times)

pub extent_name : (p : Name) → extent_form (n ∷ m ∷ z ∷ []) (Var p) ≡ cond (list_any (has_name p) (n ∷ m ∷ z ∷ [])) (Some (plus_parameter (n ∷ m ∷ z ∷ []) p (pos 1) (of_none (n ∷ m ∷ z ∷ []) (pos 0)))) None
extent_name p = simp (extent_of, multiple-Name)

pub extent_next : extent_form (n ∷ m ∷ z ∷ []) (Plus (Var n) (Const (pos 1))) ≡ Some (record { coefs = pos 1 ∷ pos 0 ∷ pos 0 ∷ []; constant = pos 1 })
unfolding of_none stopped_sum stopped_product
extent_next = simp (extent_of, multiple-Const, multiple-Name, multiple-Plus)

product_asked : asked_in product ≡ visits product_executor outside
product_asked = simp (front-For, front-Assign)

product_statements : statements product (visits product_executor outside) ≡ multiplying ∷ []
unfolding first begun_rows are_equal meet_term chosen_of with_counts value_rows extended_terms small_total placed seated_number number_at unit_form low_number high_number low_row high_row stopped_sum stopped_difference stopped_product pushed excluded exclusion is_impossible elimination merged made paired made_small outcome reduced canceled gcd gcd_of value_span of_none of_one of_two coef_of from_zero
product_statements = simp (plain-Const, plain-Var, plain-low, plain-high, plains-name, plains-column, cells-value, body-value)

bracketed-Times : (x y : Expr) → bracketed (expr.Times x y) ≡ bracketed_layer (TheOpen.Times (bracketed x) (bracketed y))
bracketed-Times x y = bracketed_at (expr.Times x y) _ (expr.outs-Times x y)

product_limits : first (map (limits product) (visits product_executor outside)) ≡ None
unfolding first
product_limits = simp (plain-Const, plain-Var, plain-Plus, plain-At, plains-One, cells-At, cells-Times, bracketed-At, bracketed-Times)

outer_inside : accesses product (visit outside (i ∷ k ∷ []) (bounds i (Const (pos 0)) (Var n))) ≡ None
unfolding first begun_rows are_equal meet_term chosen_of with_counts value_rows extended_terms small_total placed seated_number number_at unit_form low_number high_number low_row high_row stopped_sum stopped_difference stopped_product pushed excluded exclusion is_impossible elimination merged made paired made_small outcome reduced canceled gcd gcd_of value_span of_none of_one of_two coef_of from_zero
outer_inside = simp (plain-Const, plain-Var)

bounds_inside : accesses product (visit rows_at (k ∷ []) (bounds k low high)) ≡ None
unfolding first begun_rows are_equal meet_term chosen_of with_counts value_rows extended_terms small_total placed seated_number number_at unit_form low_number high_number low_row high_row stopped_sum stopped_difference stopped_product pushed excluded exclusion is_impossible elimination merged made paired made_small outcome reduced canceled gcd gcd_of value_span of_none of_one of_two coef_of from_zero
bounds_inside = simp (plain-Const, plain-Var, plain-low, plain-high, extent_name, extent_next)

pub product_kept : ProductIsKept
product_kept = (ap (statements product) product_asked ∙ product_statements, ap (λ (vs : List Visit). first (map (limits product) vs)) product_asked ∙ product_limits, outer_inside, bounds_inside)
