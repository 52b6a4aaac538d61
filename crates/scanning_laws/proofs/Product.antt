-- The sparse product is printed as stated.
use Rattle.std.proofs.Common.{refl, ◌∙◌, ap, ◌≡◌, ℕ, List, [], ◌∷◌, ◌^◌, pos}
use Rattle.std.specs.Prelude.{Result, Ok}
use Rattle.int_rows.specs.Elimination as elimination
use Rattle.int_rows.specs.Exclusion as exclusion
use Rattle.int_rows.specs.Systems as systems
use Rattle.int_rows.specs.Gcd as gcd
use Rattle.nest_core.specs.Terms as terms
use Rattle.nest_systems.specs.Sums as sums
use Rattle.nest_systems.specs.Spans as spans
use Rattle.nest_systems.specs.Ranges as ranges
use Rattle.nest_systems.specs.Extents as extents
use Rattle.nest_systems.specs.Begun as begun
use Rattle.nest_systems.specs.Parts as parts
use Rattle.nest_systems.specs.Choosing as choosing
use Rattle.nest_systems.specs.Placing as placing
use Rattle.point_laws.specs.Seats as seats
use Rattle.nest_systems.specs.Cells as cells
use Rattle.scan_forms.specs.Bounds as bounds
use Rattle.scan_forms.specs.Sums as printing
use Rattle.c_tree.specs.declared.program.Program.{Program}
use Rattle.c_tree.specs.declared.data.Expr.{Expr}
use Rattle.c_tree.specs.declared.data.Expr.TheVariants as expr
use Rattle.c_tree.specs.declared.statement.Stmt.TheVariants.{For}
use Rattle.c_tree.specs.declared.statement.How.TheVariants.{Add}
use Rattle.c_tree.specs.declared.index.Index.TheVariants.{Const, Var, At}
use Rattle.nest_core.specs.Making.{after}
use Rattle.nest_tree.specs.declared.body.Access.{Access}
use Rattle.nest_tree.specs.declared.body.Body.TheVariants as body
use Rattle.scan_forms.specs.declared.affine.Affine.{Affine}
use Rattle.scan_forms.specs.declared.reads.Read.{Read}
use Rattle.scan_forms.specs.declared.fault.ScanFault.{ScanFault}
use Rattle.scanning.specs.Tables.{table_of}
use Rattle.scanning.specs.Projections.{left_at, is_implied}
use Rattle.scanning.specs.Shapes.{loops_of}
use Rattle.scanning.specs.Written.{body_printed, cell_printed}
use Rattle.scanning.specs.Parts.{Part, Assigned, stated, part_by, at_of}
use Rattle.scanning.specs.Scanned.{scanned, scanned_in}
use Rattle.scanning.specs.Kernels.{product, product_nest, in_a, in_x, n, col, t1, t2, cell}
use Rattle.scanning.specs.Examples.{begin, end, WorkedProduct}
use Rattle.scanning_laws.proofs.Bodies.{reads_two, printed_cell, printed_times}

abbrev table : List Read
table = table_of product

abbrev by_reads : List Access → Part
by_reads rs = part_by product table 0 product_nest (cells.subscripts (product_nest.target ∷ rs))

abbrev text : List Part → Result Program ScanFault
text ps = after (scanned_in product table [] (loops_of (λ p. (p.nest).positions) ps)) (λ executor. Ok (record product.head { executor = executor }))

from_parts : scanned product ≡ text (by_reads (cells.reads (body.Times (body.At in_a) (body.At in_x))) ∷ [])
unfolding scanned table_of cells.cells cells.reads
from_parts = refl

abbrev assigned : Expr → Assigned
assigned v = record { tests = []; target = cell (121 ∷ []) (Var t1); how = Add; value = v }

-- the program, by the right side
abbrev executor : Result Expr ScanFault → Result Program ScanFault
executor value =
    after (after (after (after (after value (λ v. Ok (assigned v))) (λ x. Ok (stated x ∷ []))) (λ inner. Ok (For t2 begin end inner ∷ [])))
    (λ inner. Ok (For t1 (Const (pos 0)) (Var n) inner ∷ [])))
    (λ executor. Ok (record product.head { executor = executor }))

abbrev at : Access → List Affine
at = at_of product table product_nest

abbrev order : List ℕ
order = 0 ∷ 1 ∷ 2 ∷ []

abbrev sizes : List ℕ
sizes = 2 ^ 24 ∷ 2 ^ 24 ∷ []

from_side : text (by_reads (in_a ∷ in_x ∷ []) ∷ []) ≡ executor (body_printed product table order sizes 0 at (body.Times (body.At in_a) (body.At in_x)))
unfolding scanned table_of left_at is_implied elimination.canceled elimination.reduced elimination.outcome elimination.made_small elimination.paired elimination.made elimination.merged elimination.elimination exclusion.is_impossible exclusion.exclusion systems.pushed systems.substituted systems.eliminated systems.excluded systems.implied gcd.gcd gcd.gcd_of terms.held sums.stopped_sum sums.stopped_difference sums.stopped_product sums.number_at spans.low_number spans.high_number spans.low_row spans.high_row spans.unit_form ranges.coef_of ranges.of_two ranges.of_one ranges.of_none ranges.from_zero ranges.kept_span ranges.made_value_span ranges.pointer_span ranges.made_first_span ranges.made_second_span ranges.made_argument_span ranges.value_span ranges.argument_span extents.with_multiple extents.extent_form begun.begun_rows parts.value_rows parts.extended_terms choosing.are_equal choosing.meet_term choosing.chosen_of choosing.with_counts placing.small_total seats.placed seats.seated_number cells.reads cells.cells bounds.with_bound bounds.rising bounds.falling bounds.with_claim printing.printed_size printing.with_summand printing.with_constant
from_side = refl

cell_in_a : after (cell_printed product table order sizes 0 in_a.array (at in_a)) (λ c. Ok (expr.At c)) ≡ Ok (expr.At (cell (97 ∷ []) (Var t2)))
unfolding scanned table_of left_at is_implied elimination.canceled elimination.reduced elimination.outcome elimination.made_small elimination.paired elimination.made elimination.merged elimination.elimination exclusion.is_impossible exclusion.exclusion systems.pushed systems.substituted systems.eliminated systems.excluded systems.implied gcd.gcd gcd.gcd_of terms.held sums.stopped_sum sums.stopped_difference sums.stopped_product sums.number_at spans.low_number spans.high_number spans.low_row spans.high_row spans.unit_form ranges.coef_of ranges.of_two ranges.of_one ranges.of_none ranges.from_zero ranges.kept_span ranges.made_value_span ranges.pointer_span ranges.made_first_span ranges.made_second_span ranges.made_argument_span ranges.value_span ranges.argument_span extents.with_multiple extents.extent_form begun.begun_rows parts.value_rows parts.extended_terms choosing.are_equal choosing.meet_term choosing.chosen_of choosing.with_counts placing.small_total seats.placed seats.seated_number cells.reads cells.cells bounds.with_bound bounds.rising bounds.falling bounds.with_claim printing.printed_size printing.with_summand printing.with_constant
cell_in_a = refl

cell_in_x : after (cell_printed product table order sizes 0 in_x.array (at in_x)) (λ c. Ok (expr.At c)) ≡ Ok (expr.At (cell (120 ∷ []) (At (cell col (Var t2)))))
unfolding scanned table_of left_at is_implied elimination.canceled elimination.reduced elimination.outcome elimination.made_small elimination.paired elimination.made elimination.merged elimination.elimination exclusion.is_impossible exclusion.exclusion systems.pushed systems.substituted systems.eliminated systems.excluded systems.implied gcd.gcd gcd.gcd_of terms.held sums.stopped_sum sums.stopped_difference sums.stopped_product sums.number_at spans.low_number spans.high_number spans.low_row spans.high_row spans.unit_form ranges.coef_of ranges.of_two ranges.of_one ranges.of_none ranges.from_zero ranges.kept_span ranges.made_value_span ranges.pointer_span ranges.made_first_span ranges.made_second_span ranges.made_argument_span ranges.value_span ranges.argument_span extents.with_multiple extents.extent_form begun.begun_rows parts.value_rows parts.extended_terms choosing.are_equal choosing.meet_term choosing.chosen_of choosing.with_counts placing.small_total seats.placed seats.seated_number cells.reads cells.cells bounds.with_bound bounds.rising bounds.falling bounds.with_claim printing.printed_size printing.with_summand printing.with_constant
cell_in_x = refl

pub product_text : WorkedProduct
product_text =
    from_parts ∙ ap (λ (rs : List Access). text (by_reads rs ∷ [])) (reads_two in_a in_x) ∙ from_side
    ∙ ap executor (printed_times product table order sizes 0 at (body.At in_a) (body.At in_x) _ _
    (printed_cell product table order sizes 0 at in_a ∙ cell_in_a) (printed_cell product table order sizes 0 at in_x ∙ cell_in_x))
