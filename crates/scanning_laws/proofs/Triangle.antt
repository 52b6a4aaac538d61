-- The triangle is printed as stated.
use Rattle.std.proofs.Common.{refl, ◌∙◌, ap, ◌≡◌, List, [], ◌∷◌, ◌^◌, pos}
use Rattle.std.specs.Prelude.{Result, Ok}
use Rattle.int_rows.specs.Elimination as elimination
use Rattle.int_rows.specs.Exclusion as exclusion
use Rattle.int_rows.specs.Systems as systems
use Rattle.int_rows.specs.Gcd as gcd
use Rattle.nest_core.specs.Terms as terms
use Rattle.nest_systems.specs.Sums as sums
use Rattle.nest_systems.specs.Spans as spans
use Rattle.nest_systems.specs.Ranges as ranges
use Rattle.nest_systems.specs.Extents as extents
use Rattle.nest_systems.specs.Begun as begun
use Rattle.nest_systems.specs.Parts as parts
use Rattle.nest_systems.specs.Choosing as choosing
use Rattle.nest_systems.specs.Placing as placing
use Rattle.point_laws.specs.Seats as seats
use Rattle.nest_systems.specs.Cells as cells
use Rattle.scan_forms.specs.Bounds as bounds
use Rattle.scan_forms.specs.Sums as printing
use Rattle.c_tree.specs.declared.program.Program.{Program}
use Rattle.c_tree.specs.declared.data.Expr.{Expr}
use Rattle.c_tree.specs.declared.statement.Stmt.TheVariants.{For}
use Rattle.c_tree.specs.declared.statement.How.TheVariants.{Write}
use Rattle.c_tree.specs.declared.index.Index.TheVariants.{Const, Var, Max}
use Rattle.nest_core.specs.Making.{after}
use Rattle.nest_tree.specs.declared.body.Access.{Access}
use Rattle.nest_tree.specs.declared.body.Body.{Body}
use Rattle.nest_tree.specs.declared.body.Body.TheVariants as body
use Rattle.scan_forms.specs.declared.fault.ScanFault.{ScanFault}
use Rattle.scanning.specs.Tables.{table_of}
use Rattle.scanning.specs.Projections.{left_at, is_implied}
use Rattle.scanning.specs.Shapes.{loops_of}
use Rattle.scanning.specs.Written.{body_printed}
use Rattle.scanning.specs.Parts.{Part, Assigned, stated, part_by, at_of}
use Rattle.scanning.specs.Scanned.{scanned, scanned_in}
use Rattle.scanning.specs.Kernels.{triangle, triangle_nest, n, b, t1, t2, cell}
use Rattle.scanning.specs.Examples.{WorkedTriangle}
use Rattle.scanning_laws.proofs.Bodies.{reads_const, printed_const}

abbrev by_reads : List Access → Part
by_reads rs = part_by triangle [] 0 triangle_nest (cells.subscripts (triangle_nest.target ∷ rs))

abbrev text : List Part → Result Program ScanFault
text ps = after (scanned_in triangle [] [] (loops_of (λ p. (p.nest).positions) ps)) (λ executor. Ok (record triangle.head { executor = executor }))

from_parts : scanned triangle ≡ text (by_reads (cells.reads (body.Const 0)) ∷ [])
unfolding scanned table_of cells.cells cells.reads
from_parts = refl

abbrev assigned : Expr → Assigned
assigned v = record { tests = []; target = cell b (Var t2); how = Write; value = v }

-- the program, by the right side
abbrev executor : Result Expr ScanFault → Result Program ScanFault
executor value =
    after (after (after (after (after value (λ v. Ok (assigned v))) (λ x. Ok (stated x ∷ [])))
    (λ inner. Ok (For t2 (Max (Const (pos 0)) (Var t1)) (Var n) inner ∷ []))) (λ inner. Ok (For t1 (Const (pos 0)) (Var n) inner ∷ [])))
    (λ executor. Ok (record triangle.head { executor = executor }))

abbrev side : Body → Result Expr ScanFault
side = body_printed triangle [] [] (2 ^ 24 ∷ 2 ^ 24 ∷ []) 0 (at_of triangle [] triangle_nest)

from_side : text (by_reads [] ∷ []) ≡ executor (side (body.Const 0))
unfolding scanned table_of left_at is_implied elimination.canceled elimination.reduced elimination.outcome elimination.made_small elimination.paired elimination.made elimination.merged elimination.elimination exclusion.is_impossible exclusion.exclusion systems.pushed systems.substituted systems.eliminated systems.excluded systems.implied gcd.gcd gcd.gcd_of terms.held sums.stopped_sum sums.stopped_difference sums.stopped_product sums.number_at spans.low_number spans.high_number spans.low_row spans.high_row spans.unit_form ranges.coef_of ranges.of_two ranges.of_one ranges.of_none ranges.from_zero ranges.kept_span ranges.made_value_span ranges.pointer_span ranges.made_first_span ranges.made_second_span ranges.made_argument_span ranges.value_span ranges.argument_span extents.with_multiple extents.extent_form begun.begun_rows parts.value_rows parts.extended_terms choosing.are_equal choosing.meet_term choosing.chosen_of choosing.with_counts placing.small_total seats.placed seats.seated_number cells.reads cells.cells bounds.with_bound bounds.rising bounds.falling bounds.with_claim printing.printed_size printing.with_summand printing.with_constant
from_side = refl

pub triangle_text : WorkedTriangle
triangle_text =
    from_parts ∙ ap (λ (rs : List Access). text (by_reads rs ∷ [])) (reads_const 0) ∙ from_side
    ∙ ap executor (printed_const triangle [] [] (2 ^ 24 ∷ 2 ^ 24 ∷ []) 0 (at_of triangle [] triangle_nest) 0)
