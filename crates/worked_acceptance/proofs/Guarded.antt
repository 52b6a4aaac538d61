-- The worked source with a guard, computed.
use Rattle.std.proofs.Common.{ℕ, ◌≡◌, map, pos, List, [], ◌∷◌, ap, ◌∙◌, refl, None, Some}
use Rattle.c_tree.specs.declared.index.Index.TheVariants.{Const, Var}
use Rattle.c_tree.specs.declared.data.Expr.TheOpen
use Rattle.c_tree.specs.declared.data.Expr.TheVariants.{At as Load, Const as Number-Expr, outs-Const}
use Rattle.c_tree.specs.declared.statement.How.TheVariants.{Write, Add}
use Rattle.std.specs.Prelude.{false, ◌-◌, ◌++◌, Result}
use Rattle.std.specs.List.{range_with_len}
use Rattle.int_rows.specs.declared.row.Aff.{Aff}
use Rattle.int_rows.specs.declared.row.Row.{Row}
use Rattle.int_rows.specs.declared.row.Excess.{Excess}
use Rattle.int_rows.specs.Systems.{Rows}
use Rattle.source_limits.specs.declared.reads.Read.{Read}
use Rattle.nest_tree.specs.declared.kernel.KernelRow.{KernelRow}
use Rattle.nest_tree.specs.Forms.{zeros}
use Rattle.nest_systems.specs.declared.instance.Instance.{Instance}
use Rattle.nest_systems.specs.Parts.{end_names}
use Rattle.nest_systems.specs.Begun.{end_rows}
use Rattle.nest_systems.specs.Statements.{plain_row}
use Rattle.c_meaning.specs.Names.{Name}
use Rattle.acceptance.specs.Expressions.{Expression, name}
use Rattle.acceptance.proofs.Judged.{none_first}
use Rattle.c_tree.specs.declared.index.Cell.{Cell}
use Rattle.c_meaning.specs.Examples.{i, n}
use Rattle.nest_systems.specs.Ranges.{of_none, of_one, of_two, coef_of, from_zero, value_span}
use Rattle.nest_systems.specs.Begun.{begun_rows}
use Rattle.nest_systems.specs.Choosing.{are_equal, meet_term, chosen_of, with_counts}
use Rattle.nest_systems.specs.Parts.{value_rows, extended_terms}
use Rattle.nest_systems.specs.Placing.{small_total}
use Rattle.nest_systems.specs.Sums.{number_at, stopped_sum, stopped_difference, stopped_product}
use Rattle.nest_systems.specs.Spans.{unit_form, low_number, high_number, low_row, high_row}
use Rattle.int_rows.specs.Systems.{pushed, excluded}
use Rattle.int_rows.specs.Exclusion.{exclusion, is_impossible}
use Rattle.int_rows.specs.Elimination.{elimination, merged, made, paired, made_small, outcome, reduced, canceled}
use Rattle.int_rows.specs.Gcd.{gcd, gcd_of}
use Rattle.nest_tree.specs.declared.body.Body.TheVariants as body
use Rattle.point_laws.specs.Seats.{Seats, seated_number, placed, placed_row}
use Rattle.point_laws.specs.Own.{own_places}
use Rattle.executors.proofs.Equations.{front-For, front-If, front-Assign}
use Rattle.acceptance.specs.Judged.{Judged, first}
use Rattle.acceptance.specs.Brackets.{bracketed, bracketed_layer}
use Rattle.acceptance.specs.Limits.{limits}
use Rattle.acceptance.specs.Inside.{Sight, cell_inside, terms_inside, each_inside, inside, inside_extent, within_extent, vars_with, units, extent_at, sight_at, accesses}
use Rattle.acceptance.specs.Systems.{instance_of, seats_of, pushed_all, own_system}
use Rattle.acceptance.specs.Visits.{Visit, Spot, visit, visits, outside, into, past, next, bounds, test, assignment}
use Rattle.acceptance.specs.Around.{cells_of}
use Rattle.acceptance.specs.Forms.{Vars, form}
use Rattle.acceptance.specs.Rows.{body_of, rows_in, terms_of}
use Rattle.acceptance.specs.Accepted.{refusal, statements, asked_in}
use Rattle.acceptance.proofs.Equations.{plain-Const, plain-Var, plain-Plus, plains-One, plain-At, cells-At, cells_at, bracketed_at, body-At, body_at}
use Rattle.worked_acceptance.specs.Examples.{cell, a, first_of, k, m, y, z, low, high}
use Rattle.worked_acceptance.specs.Guarded.{behind_row, guarded_executor, guarded, zeroing, adding, GuardedIsAccepted}
use Rattle.worked_acceptance.proofs.Examples.{plain-low, plain-high, plains-name, bracketed-At, extent_name, extent_next}

guarded_asked : asked_in guarded ≡ visits guarded_executor outside
guarded_asked = simp (front-For, front-If, front-Assign)

cells-Const : cells_of (Number-Expr 0) ≡ []
cells-Const = cells_at (Number-Expr 0) _ (outs-Const 0)

body-Const : (v : Vars) → body_of v (Number-Expr 0) ≡ body.Const 0
body-Const v = body_at v (Number-Expr 0) _ (outs-Const 0)

bracketed-Const : bracketed (Number-Expr 0) ≡ bracketed_layer (TheOpen.Const 0)
bracketed-Const = bracketed_at (Number-Expr 0) _ (outs-Const 0)

guarded_statements : statements guarded (visits guarded_executor outside) ≡ zeroing ∷ adding ∷ []
unfolding number_at
guarded_statements = simp (plain-Const, plain-Var, plain-low, plain-high, plains-name, cells-At, cells-Const, body-At, body-Const)

guarded_limits : first (map (limits guarded) (visits guarded_executor outside)) ≡ None
unfolding first
guarded_limits = simp (plain-Const, plain-Var, plain-Plus, plain-At, plains-One, cells-At, cells-Const, bracketed-At, bracketed-Const)

-- inside the rows' loop, in front of the entries' loop, inside it, and behind the test
abbrev in_rows : Spot
in_rows = into i (Const (pos 0)) (Var n) outside

abbrev at_entries : Spot
at_entries = next 1 1 in_rows

abbrev in_entries : Spot
in_entries = into k low high at_entries

abbrev behind : Spot
behind = past behind_row in_entries

abbrev last_visit : Visit
last_visit = visit behind [] (assignment (cell y (Var i)) Add (Load (cell a (Var k))))

rows_inside : accesses guarded (visit outside (i ∷ []) (bounds i (Const (pos 0)) (Var n))) ≡ None
unfolding first
rows_inside = simp (plain-Const, plain-Var)

zero_inside : accesses guarded (visit in_rows [] (assignment (cell y (Var i)) Write (Number-Expr 0))) ≡ None
unfolding first begun_rows are_equal meet_term chosen_of with_counts value_rows extended_terms small_total placed seated_number number_at unit_form low_number high_number low_row high_row stopped_sum stopped_difference stopped_product pushed excluded exclusion is_impossible elimination merged made paired made_small outcome reduced canceled gcd gcd_of value_span of_none of_one of_two coef_of from_zero
zero_inside = simp (plain-Const, plain-Var, plains-name, cells-Const, extent_name, extent_next)

entries_inside : accesses guarded (visit at_entries (k ∷ []) (bounds k low high)) ≡ None
unfolding first begun_rows are_equal meet_term chosen_of with_counts value_rows extended_terms small_total placed seated_number number_at unit_form low_number high_number low_row high_row stopped_sum stopped_difference stopped_product pushed excluded exclusion is_impossible elimination merged made paired made_small outcome reduced canceled gcd gcd_of value_span of_none of_one of_two coef_of from_zero
entries_inside = simp (plain-Const, plain-Var, plain-low, plain-high, extent_name, extent_next)

test_inside : accesses guarded (visit in_entries [] (test behind_row)) ≡ None
unfolding first
test_inside = simp (plain-Var)

-- ## The last visit, step by step

abbrev last_sight : Sight
last_sight = sight_at guarded last_visit

abbrev own_row : Read
own_row = record { array = first_of; at = record { coefs = pos 0 ∷ pos 0 ∷ pos 0 ∷ pos 1 ∷ pos 0 ∷ []; constant = pos 0 } }

abbrev next_row : Read
next_row = record { array = first_of; at = record { coefs = pos 0 ∷ pos 0 ∷ pos 0 ∷ pos 1 ∷ pos 0 ∷ []; constant = pos 1 } }

abbrev both : Vars
both = record { names = n ∷ m ∷ z ∷ i ∷ k ∷ []; reads = own_row ∷ next_row ∷ [] }

vars_are : (x : Name) → vars_with last_sight (name x ∷ []) ≡ both
vars_are x = simp (plain-Const, plain-Var, plain-low, plain-high, plains-name, cells-At)

rows_are : rows_in 3 both 0 last_sight.around ≡ adding.rows
unfolding number_at
rows_are = simp (plain-Const, plain-Var, plain-low, plain-high)

abbrev unit : ℕ → Aff
unit v = record { coefs = zeros v (pos 1 ∷ map (λ x. pos 0) (range_with_len 0 (6 - v))); constant = pos 0 }

abbrev sign : ℕ → Row
sign v = record { equal = false; form = unit v }

abbrev begun : List Row
begun = sign 0 ∷ sign 1 ∷ sign 2 ∷ record { equal = false; form = record { coefs = pos 1 ∷ pos 0 ∷ pos 0 ∷ pos 0 ∷ pos 0 ∷ pos 0 ∷ pos 0 ∷ []; constant = pos 1 } } ∷ sign 2 ∷ sign 2 ∷ sign 0 ∷ []

begun_are : begun_rows guarded 7 ≡ begun
unfolding begun_rows unit_form number_at stopped_sum stopped_product of_none
begun_are = simp (extent_name, extent_next)

-- what is known there, with a form
abbrev instance : List Row → Aff → Instance
instance rows f = instance_of guarded [] 2 (terms_of both) 0 rows (units both ++ f ∷ [])

abbrev known_rows : List Row
known_rows = map plain_row adding.rows

-- the system of a form, with what its further rows are
abbrev system_by : Aff → List Row → Result Rows Excess
system_by f front =
    let x : Instance = instance known_rows f in
    let s : Seats = seats_of guarded x in
    pushed_all (record { vars = s.vars; rows = [] }) (front ++ (map (placed_row s) x.rows ++ (map (placed_row s) x.ranges ++ end_rows guarded [] s.vars (own_places guarded x).first_end (end_names x))))

abbrev is_inside : Name → Aff → Aff → Judged
is_inside array f extent = within_extent last_sight array (instance known_rows f) f extent (system_by f begun)

module _ (array x : Name) (extent : Aff) (there : extent_at guarded array 0 ≡ Some extent) (ok : is_inside array (form (name x) both) extent ≡ None) where
  abbrev f : Aff
  f = form (name x) both

  from_vars : (v : Vars) → v ≡ both → inside_extent last_sight v array (form (name x) v) (Some extent) ≡ inside_extent last_sight both array f (Some extent)
  from_vars v h = ap (λ (v : Vars). inside_extent last_sight v array (form (name x) v) (Some extent)) h

  with_rows : inside_extent last_sight both array f (Some extent) ≡ within_extent last_sight array (instance known_rows f) f extent (own_system guarded [] (instance known_rows f))
  with_rows = ap (λ (rows : List KernelRow). within_extent last_sight array (instance (map plain_row rows) f) f extent (own_system guarded [] (instance (map plain_row rows) f))) rows_are

  begun_there : (seats_of guarded (instance known_rows f)).vars ≡ 7 → own_system guarded [] (instance known_rows f) ≡ system_by f begun
  begun_there h = ap (system_by f) (ap (begun_rows guarded) h ∙ begun_are)

  subscript_inside : (seats_of guarded (instance known_rows f)).vars ≡ 7 → inside last_sight (name x ∷ []) array 0 (name x) ≡ None
  subscript_inside h =
      let v : Vars = vars_with last_sight (name x ∷ []) in
      ap (inside_extent last_sight v array (form (name x) v)) there ∙ from_vars v (vars_are x) ∙ with_rows ∙ ap (within_extent last_sight array (instance known_rows f) f extent) (begun_there h) ∙ ok

  one_inside : (seats_of guarded (instance known_rows f)).vars ≡ 7 → cell_inside last_sight (cell array (Var x)) ≡ None
  unfolding first
  one_inside h =
      ap (λ (es : List Expression). first (map (terms_inside last_sight) es ++ each_inside last_sight array 0 es)) (plains-name x) ∙ ap (λ (j : Judged). first (None ∷ j ∷ [])) (subscript_inside h)

target_is : is_inside y (form (name i) both) (record { coefs = pos 1 ∷ pos 0 ∷ pos 0 ∷ []; constant = pos 0 }) ≡ None
unfolding first begun_rows are_equal meet_term chosen_of with_counts value_rows extended_terms small_total placed seated_number number_at unit_form low_number high_number low_row high_row stopped_sum stopped_difference stopped_product pushed excluded exclusion is_impossible elimination merged made paired made_small outcome reduced canceled gcd gcd_of value_span of_none of_one of_two coef_of from_zero
target_is = refl

read_is : is_inside a (form (name k) both) (record { coefs = pos 0 ∷ pos 0 ∷ pos 1 ∷ []; constant = pos 0 }) ≡ None
unfolding first begun_rows are_equal meet_term chosen_of with_counts value_rows extended_terms small_total placed seated_number number_at unit_form low_number high_number low_row high_row stopped_sum stopped_difference stopped_product pushed excluded exclusion is_impossible elimination merged made paired made_small outcome reduced canceled gcd gcd_of value_span of_none of_one of_two coef_of from_zero
read_is = refl

rows_extent : extent_at guarded y 0 ≡ Some (record { coefs = pos 1 ∷ pos 0 ∷ pos 0 ∷ []; constant = pos 0 })
unfolding stopped_sum of_none
rows_extent = simp extent_name

entries_extent : extent_at guarded a 0 ≡ Some (record { coefs = pos 0 ∷ pos 0 ∷ pos 1 ∷ []; constant = pos 0 })
unfolding stopped_sum of_none
entries_extent = simp extent_name

target_seats : (seats_of guarded (instance known_rows (form (name i) both))).vars ≡ 7
unfolding first begun_rows are_equal meet_term chosen_of with_counts value_rows extended_terms small_total placed seated_number number_at unit_form low_number high_number low_row high_row stopped_sum stopped_difference stopped_product pushed excluded exclusion is_impossible elimination merged made paired made_small outcome reduced canceled gcd gcd_of value_span of_none of_one of_two coef_of from_zero
target_seats = refl

read_seats : (seats_of guarded (instance known_rows (form (name k) both))).vars ≡ 7
unfolding first begun_rows are_equal meet_term chosen_of with_counts value_rows extended_terms small_total placed seated_number number_at unit_form low_number high_number low_row high_row stopped_sum stopped_difference stopped_product pushed excluded exclusion is_impossible elimination merged made paired made_small outcome reduced canceled gcd gcd_of value_span of_none of_one of_two coef_of from_zero
read_seats = refl

last_inside : accesses guarded last_visit ≡ None
unfolding first
last_inside =
    ap (λ (cs : List Cell). first (map (cell_inside last_sight) (cell y (Var i) ∷ cs))) (cells-At (cell a (Var k)))
    ∙ none_first (cell_inside last_sight (cell y (Var i)) ∷ cell_inside last_sight (cell a (Var k)) ∷ [])
    (one_inside y i _ rows_extent target_is target_seats, (one_inside a k _ entries_extent read_is read_seats, tt))

guarded_accesses : first (map (accesses guarded) (visits guarded_executor outside)) ≡ None
guarded_accesses = none_first (map (accesses guarded) (visits guarded_executor outside)) (rows_inside, (zero_inside, (entries_inside, (test_inside, (last_inside, tt)))))

guarded_refusal : (l j : Judged) → first (map (limits guarded) (visits guarded_executor outside)) ≡ l → first (map (accesses guarded) (visits guarded_executor outside)) ≡ j → refusal guarded ≡ first (l ∷ j ∷ [])
unfolding first
guarded_refusal l j h k = simp (extent_name, extent_next, guarded_asked, h, k)

pub guarded_accepted : GuardedIsAccepted
unfolding first
guarded_accepted = (guarded_refusal None None guarded_limits guarded_accesses, ap (statements guarded) guarded_asked ∙ guarded_statements)
