-- Two statements in tiles of entries are printed as stated.
use Rattle.std.proofs.Common.{refl, ◌∙◌, ap, ◌≡◌, ℕ, List, [], ◌∷◌, ◌+◌, ◌^◌, pos}
use Rattle.std.specs.Prelude.{Result, Ok}
use Rattle.int_rows.specs.Elimination as elimination
use Rattle.int_rows.specs.Exclusion as exclusion
use Rattle.int_rows.specs.Systems as systems
use Rattle.int_rows.specs.Gcd as gcd
use Rattle.nest_core.specs.Terms as terms
use Rattle.nest_systems.specs.Sums as sums
use Rattle.nest_systems.specs.Spans as spans
use Rattle.nest_systems.specs.Ranges as ranges
use Rattle.nest_systems.specs.Extents as extents
use Rattle.nest_systems.specs.Begun as begun
use Rattle.nest_systems.specs.Parts as parts
use Rattle.nest_systems.specs.Choosing as choosing
use Rattle.nest_systems.specs.Placing as placing
use Rattle.point_laws.specs.Seats as seats
use Rattle.nest_systems.specs.Cells as cells
use Rattle.scan_forms.specs.Bounds as bounds
use Rattle.scan_forms.specs.Sums as printing
use Rattle.c_tree.specs.declared.program.Program.{Program}
use Rattle.c_tree.specs.declared.data.Expr.{Expr}
use Rattle.c_tree.specs.declared.data.Expr.TheVariants as expr
use Rattle.c_tree.specs.declared.statement.Stmt.{Stmt}
use Rattle.c_tree.specs.declared.statement.Stmt.TheVariants.{For}
use Rattle.c_tree.specs.declared.statement.How.TheVariants.{Add}
use Rattle.c_tree.specs.declared.index.Index.TheVariants.{Const, Var, At, Plus, Minus, Times, Min, Max, Floor, Ceil}
use Rattle.nest_core.specs.Making.{after}
use Rattle.nest_tree.specs.declared.body.Access.{Access}
use Rattle.nest_tree.specs.declared.body.Body.{Body}
use Rattle.nest_tree.specs.declared.body.Body.TheVariants as body
use Rattle.nest_tree.specs.declared.kernel.Nest.{Nest}
use Rattle.scan_forms.specs.declared.affine.Affine.{Affine}
use Rattle.scan_forms.specs.declared.reads.Read.{Read}
use Rattle.scan_forms.specs.declared.fault.ScanFault.{ScanFault}
use Rattle.scanning.specs.Tables.{table_of}
use Rattle.scanning.specs.Projections.{left_at, is_implied}
use Rattle.scanning.specs.Shapes.{loops_of}
use Rattle.scanning.specs.Written.{body_printed, cell_printed}
use Rattle.scanning.specs.Parts.{Part, Assigned, stated, part_by, at_of}
use Rattle.scanning.specs.Scanned.{scanned, scanned_in}
use Rattle.scanning.specs.Kernels.{tiled, tiled_sum, tiled_product, entry_in, column_in_x, n, col, t1, t2, t3, cell}
use Rattle.scanning.specs.Examples.{begin, end, WorkedTiles}
use Rattle.scanning_laws.proofs.Bodies.{reads_cell, reads_two, printed_cell, printed_times}

abbrev table : List Read
table = table_of tiled

abbrev by_reads : List Access → List Access → List Part
by_reads r q =
    part_by tiled table 0 tiled_sum (cells.subscripts (tiled_sum.target ∷ r)) ∷ part_by tiled table 1 tiled_product (cells.subscripts (tiled_product.target ∷ q)) ∷ []

abbrev text : List Part → Result Program ScanFault
text ps = after (scanned_in tiled table [] (loops_of (λ p. (p.nest).positions) ps)) (λ executor. Ok (record tiled.head { executor = executor }))

from_parts : scanned tiled ≡ text (by_reads (cells.reads (body.At (entry_in 8))) (cells.reads (body.Times (body.At (entry_in 9)) (body.At column_in_x))))
unfolding scanned table_of cells.cells cells.reads
from_parts = refl

abbrev assigned : ℕ → Expr → Assigned
assigned array v = record { tests = []; target = cell (array ∷ []) (Var t1); how = Add; value = v }

abbrev in_loops : List Stmt → List Stmt
in_loops inner = For t3 (Max begin (Times (pos 8) (Var t2))) (Min end (Plus (Times (pos 8) (Var t2)) (Const (pos 8)))) inner ∷ []

abbrev in_tiles : List Stmt → List Stmt
in_tiles inner = For t2 (Ceil (Minus begin (Const (pos 7))) (pos 8)) (Plus (Floor (Minus end (Const (pos 1))) (pos 8)) (Const (pos 1))) inner ∷ []

-- the program, by both right sides
abbrev executor : Result Expr ScanFault → Result Expr ScanFault → Result Program ScanFault
executor v w =
    after (after (after (after (after (after v (λ u. Ok (assigned 115 u))) (λ x. after (after (after w (λ u. Ok (assigned 121 u))) (λ y. Ok (stated y ∷ [])))
    (λ more. Ok (stated x ∷ more)))) (λ inner. Ok (in_loops inner))) (λ inner. Ok (in_tiles inner))) (λ inner. Ok (For t1 (Const (pos 0)) (Var n) inner ∷ [])))
    (λ executor. Ok (record tiled.head { executor = executor }))

abbrev sizes : List ℕ
sizes = 2 ^ 24 ∷ (2 ^ 24 + 7) ∷ (2 ^ 27 + 64) ∷ []

abbrev side : List ℕ → ℕ → Nest → Body → Result Expr ScanFault
side order s nest = body_printed tiled table order sizes s (at_of tiled table nest)

from_sides : text (by_reads (entry_in 8 ∷ []) (entry_in 9 ∷ column_in_x ∷ []))
    ≡ executor (side (0 ∷ 1 ∷ []) 0 tiled_sum (body.At (entry_in 8))) (side (0 ∷ 1 ∷ 2 ∷ []) 1 tiled_product (body.Times (body.At (entry_in 9)) (body.At column_in_x)))
unfolding scanned table_of left_at is_implied elimination.canceled elimination.reduced elimination.outcome elimination.made_small elimination.paired elimination.made elimination.merged elimination.elimination exclusion.is_impossible exclusion.exclusion systems.pushed systems.substituted systems.eliminated systems.excluded systems.implied gcd.gcd gcd.gcd_of terms.held sums.stopped_sum sums.stopped_difference sums.stopped_product sums.number_at spans.low_number spans.high_number spans.low_row spans.high_row spans.unit_form ranges.coef_of ranges.of_two ranges.of_one ranges.of_none ranges.from_zero ranges.kept_span ranges.made_value_span ranges.pointer_span ranges.made_first_span ranges.made_second_span ranges.made_argument_span ranges.value_span ranges.argument_span extents.with_multiple extents.extent_form begun.begun_rows parts.value_rows parts.extended_terms choosing.are_equal choosing.meet_term choosing.chosen_of choosing.with_counts placing.small_total seats.placed seats.seated_number cells.reads cells.cells bounds.with_bound bounds.rising bounds.falling bounds.with_claim printing.printed_size printing.with_summand printing.with_constant
from_sides = refl

abbrev at : Nest → Access → List Affine
at = at_of tiled table

abbrev entry : Expr
entry = expr.At (cell (97 ∷ []) (Var t3))

cell_in_sum : after (cell_printed tiled table (0 ∷ 1 ∷ []) sizes 0 (97 ∷ []) (at tiled_sum (entry_in 8))) (λ c. Ok (expr.At c)) ≡ Ok entry
unfolding scanned table_of left_at is_implied elimination.canceled elimination.reduced elimination.outcome elimination.made_small elimination.paired elimination.made elimination.merged elimination.elimination exclusion.is_impossible exclusion.exclusion systems.pushed systems.substituted systems.eliminated systems.excluded systems.implied gcd.gcd gcd.gcd_of terms.held sums.stopped_sum sums.stopped_difference sums.stopped_product sums.number_at spans.low_number spans.high_number spans.low_row spans.high_row spans.unit_form ranges.coef_of ranges.of_two ranges.of_one ranges.of_none ranges.from_zero ranges.kept_span ranges.made_value_span ranges.pointer_span ranges.made_first_span ranges.made_second_span ranges.made_argument_span ranges.value_span ranges.argument_span extents.with_multiple extents.extent_form begun.begun_rows parts.value_rows parts.extended_terms choosing.are_equal choosing.meet_term choosing.chosen_of choosing.with_counts placing.small_total seats.placed seats.seated_number cells.reads cells.cells bounds.with_bound bounds.rising bounds.falling bounds.with_claim printing.printed_size printing.with_summand printing.with_constant
cell_in_sum = refl

cell_in_product : after (cell_printed tiled table (0 ∷ 1 ∷ 2 ∷ []) sizes 1 (97 ∷ []) (at tiled_product (entry_in 9))) (λ c. Ok (expr.At c)) ≡ Ok entry
unfolding scanned table_of left_at is_implied elimination.canceled elimination.reduced elimination.outcome elimination.made_small elimination.paired elimination.made elimination.merged elimination.elimination exclusion.is_impossible exclusion.exclusion systems.pushed systems.substituted systems.eliminated systems.excluded systems.implied gcd.gcd gcd.gcd_of terms.held sums.stopped_sum sums.stopped_difference sums.stopped_product sums.number_at spans.low_number spans.high_number spans.low_row spans.high_row spans.unit_form ranges.coef_of ranges.of_two ranges.of_one ranges.of_none ranges.from_zero ranges.kept_span ranges.made_value_span ranges.pointer_span ranges.made_first_span ranges.made_second_span ranges.made_argument_span ranges.value_span ranges.argument_span extents.with_multiple extents.extent_form begun.begun_rows parts.value_rows parts.extended_terms choosing.are_equal choosing.meet_term choosing.chosen_of choosing.with_counts placing.small_total seats.placed seats.seated_number cells.reads cells.cells bounds.with_bound bounds.rising bounds.falling bounds.with_claim printing.printed_size printing.with_summand printing.with_constant
cell_in_product = refl

cell_in_x : after (cell_printed tiled table (0 ∷ 1 ∷ 2 ∷ []) sizes 1 (120 ∷ []) (at tiled_product column_in_x)) (λ c. Ok (expr.At c))
    ≡ Ok (expr.At (cell (120 ∷ []) (At (cell col (Var t3)))))
unfolding scanned table_of left_at is_implied elimination.canceled elimination.reduced elimination.outcome elimination.made_small elimination.paired elimination.made elimination.merged elimination.elimination exclusion.is_impossible exclusion.exclusion systems.pushed systems.substituted systems.eliminated systems.excluded systems.implied gcd.gcd gcd.gcd_of terms.held sums.stopped_sum sums.stopped_difference sums.stopped_product sums.number_at spans.low_number spans.high_number spans.low_row spans.high_row spans.unit_form ranges.coef_of ranges.of_two ranges.of_one ranges.of_none ranges.from_zero ranges.kept_span ranges.made_value_span ranges.pointer_span ranges.made_first_span ranges.made_second_span ranges.made_argument_span ranges.value_span ranges.argument_span extents.with_multiple extents.extent_form begun.begun_rows parts.value_rows parts.extended_terms choosing.are_equal choosing.meet_term choosing.chosen_of choosing.with_counts placing.small_total seats.placed seats.seated_number cells.reads cells.cells bounds.with_bound bounds.rising bounds.falling bounds.with_claim printing.printed_size printing.with_summand printing.with_constant
cell_in_x = refl

pub tiles_text : WorkedTiles
tiles_text =
    let product : Body = body.Times (body.At (entry_in 9)) (body.At column_in_x) in
    let order : List ℕ = 0 ∷ 1 ∷ 2 ∷ [] in
    let sum_is = printed_cell tiled table (0 ∷ 1 ∷ []) sizes 0 (at tiled_sum) (entry_in 8) ∙ cell_in_sum in
    let a_is = printed_cell tiled table order sizes 1 (at tiled_product) (entry_in 9) ∙ cell_in_product in
    let x_is = printed_cell tiled table order sizes 1 (at tiled_product) column_in_x ∙ cell_in_x in
    from_parts ∙ ap (λ (rs : List Access). text (by_reads rs (cells.reads product))) (reads_cell (entry_in 8))
    ∙ ap (λ (rs : List Access). text (by_reads (entry_in 8 ∷ []) rs)) (reads_two (entry_in 9) column_in_x) ∙ from_sides
    ∙ ap (λ (v : Result Expr ScanFault). executor v (side order 1 tiled_product product)) sum_is
    ∙ ap (executor (Ok entry)) (printed_times tiled table order sizes 1 (at tiled_product) (body.At (entry_in 9)) (body.At column_in_x) _ _ a_is x_is)
