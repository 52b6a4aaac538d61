-- Two fused loops of unlike bounds are printed as stated.
use Rattle.std.proofs.Common.{refl, ◌∙◌, ap, ◌≡◌, ℕ, List, [], ◌∷◌, ◌^◌, pos}
use Rattle.std.specs.Prelude.{Result, Ok}
use Rattle.int_rows.specs.Elimination as elimination
use Rattle.int_rows.specs.Exclusion as exclusion
use Rattle.int_rows.specs.Systems as systems
use Rattle.int_rows.specs.Gcd as gcd
use Rattle.nest_core.specs.Terms as terms
use Rattle.nest_systems.specs.Sums as sums
use Rattle.nest_systems.specs.Spans as spans
use Rattle.nest_systems.specs.Ranges as ranges
use Rattle.nest_systems.specs.Extents as extents
use Rattle.nest_systems.specs.Begun as begun
use Rattle.nest_systems.specs.Parts as parts
use Rattle.nest_systems.specs.Choosing as choosing
use Rattle.nest_systems.specs.Placing as placing
use Rattle.point_laws.specs.Seats as seats
use Rattle.nest_systems.specs.Cells as cells
use Rattle.scan_forms.specs.Bounds as bounds
use Rattle.scan_forms.specs.Sums as printing
use Rattle.c_tree.specs.declared.program.Program.{Program}
use Rattle.c_tree.specs.declared.data.Expr.{Expr}
use Rattle.c_tree.specs.declared.data.Expr.TheVariants as expr
use Rattle.c_tree.specs.declared.statement.Stmt.TheVariants.{For}
use Rattle.c_tree.specs.declared.statement.How.TheVariants.{Write}
use Rattle.c_tree.specs.declared.index.Index.TheVariants.{Const, Var, Neg, Plus, Minus, Min, Max}
use Rattle.nest_core.specs.Making.{after}
use Rattle.nest_tree.specs.declared.body.Access.{Access}
use Rattle.nest_tree.specs.declared.body.Body.{Body}
use Rattle.nest_tree.specs.declared.body.Body.TheVariants as body
use Rattle.nest_tree.specs.declared.kernel.Nest.{Nest}
use Rattle.scan_forms.specs.declared.fault.ScanFault.{ScanFault}
use Rattle.scanning.specs.Tables.{table_of}
use Rattle.scanning.specs.Projections.{left_at, is_implied}
use Rattle.scanning.specs.Shapes.{loops_of}
use Rattle.scanning.specs.Written.{body_printed}
use Rattle.scanning.specs.Parts.{Part, Assigned, stated, part_by, at_of}
use Rattle.scanning.specs.Scanned.{scanned, scanned_in}
use Rattle.scanning.specs.Kernels.{fused, fused_nest, bound, minus_one, n, m, b, t1, cell}
use Rattle.scanning.specs.Examples.{at_least_zero, WorkedFused}
use Rattle.scanning_laws.proofs.Bodies.{reads_const, printed_const}

abbrev first : Nest
first = fused_nest 0 (bound 1 (pos 0 ∷ pos 0 ∷ pos 1 ∷ []) (pos 0)) (bound 1 (pos 1 ∷ pos 0 ∷ minus_one ∷ []) minus_one) 0

abbrev second : Nest
second = fused_nest 1 (bound 1 (pos 0 ∷ pos 0 ∷ pos 1 ∷ []) minus_one) (bound 1 (pos 0 ∷ pos 1 ∷ minus_one ∷ []) minus_one) 1

abbrev by_reads : List Access → List Access → List Part
by_reads r q = part_by fused [] 0 first (cells.subscripts (first.target ∷ r)) ∷ part_by fused [] 1 second (cells.subscripts (second.target ∷ q)) ∷ []

abbrev text : List Part → Result Program ScanFault
text ps = after (scanned_in fused [] [] (loops_of (λ p. (p.nest).positions) ps)) (λ executor. Ok (record fused.head { executor = executor }))

from_parts : scanned fused ≡ text (by_reads (cells.reads (body.Const 0)) (cells.reads (body.Const 1)))
unfolding scanned table_of cells.cells cells.reads
from_parts = refl

abbrev assigned0 : Expr → Assigned
assigned0 v = record {
  tests = at_least_zero (Var t1) ∷ at_least_zero (Minus (Plus (Neg (Var t1)) (Var n)) (Const (pos 1))) ∷ [];
  target = cell b (Var t1);
  how = Write;
  value = v;
}

abbrev assigned1 : Expr → Assigned
assigned1 v = record {
  tests = at_least_zero (Minus (Var t1) (Const (pos 1))) ∷ at_least_zero (Minus (Plus (Neg (Var t1)) (Var m)) (Const (pos 1))) ∷ [];
  target = cell b (Var t1);
  how = Write;
  value = v;
}

-- the program, by both right sides
abbrev executor : Result Expr ScanFault → Result Expr ScanFault → Result Program ScanFault
executor v w =
    after (after (after (after v (λ u. Ok (assigned0 u))) (λ x. after (after (after w (λ u. Ok (assigned1 u))) (λ y. Ok (stated y ∷ [])))
    (λ more. Ok (stated x ∷ more)))) (λ inner. Ok (For t1 (Min (Const (pos 0)) (Const (pos 1))) (Max (Var n) (Var m)) inner ∷ [])))
    (λ executor. Ok (record fused.head { executor = executor }))

abbrev side : ℕ → Nest → Body → Result Expr ScanFault
side s nest = body_printed fused [] [] (2 ^ 24 ∷ []) s (at_of fused [] nest)

from_sides : text (by_reads [] []) ≡ executor (side 0 first (body.Const 0)) (side 1 second (body.Const 1))
unfolding scanned table_of left_at is_implied elimination.canceled elimination.reduced elimination.outcome elimination.made_small elimination.paired elimination.made elimination.merged elimination.elimination exclusion.is_impossible exclusion.exclusion systems.pushed systems.substituted systems.eliminated systems.excluded systems.implied gcd.gcd gcd.gcd_of terms.held sums.stopped_sum sums.stopped_difference sums.stopped_product sums.number_at spans.low_number spans.high_number spans.low_row spans.high_row spans.unit_form ranges.coef_of ranges.of_two ranges.of_one ranges.of_none ranges.from_zero ranges.kept_span ranges.made_value_span ranges.pointer_span ranges.made_first_span ranges.made_second_span ranges.made_argument_span ranges.value_span ranges.argument_span extents.with_multiple extents.extent_form begun.begun_rows parts.value_rows parts.extended_terms choosing.are_equal choosing.meet_term choosing.chosen_of choosing.with_counts placing.small_total seats.placed seats.seated_number cells.reads cells.cells bounds.with_bound bounds.rising bounds.falling bounds.with_claim printing.printed_size printing.with_summand printing.with_constant
from_sides = refl

pub fused_text : WorkedFused
fused_text =
    from_parts ∙ ap (λ (rs : List Access). text (by_reads rs (cells.reads (body.Const 1)))) (reads_const 0)
    ∙ ap (λ (rs : List Access). text (by_reads [] rs)) (reads_const 1) ∙ from_sides
    ∙ ap (λ (v : Result Expr ScanFault). executor v (side 1 second (body.Const 1))) (printed_const fused [] [] (2 ^ 24 ∷ []) 0 (at_of fused [] first) 0)
    ∙ ap (executor (Ok (expr.Const 0))) (printed_const fused [] [] (2 ^ 24 ∷ []) 1 (at_of fused [] second) 1)
