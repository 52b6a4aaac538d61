-- What each call asks, and what each kind writes.
use Rattle.std.proofs.Common.{rules, arith, sym, ap, ◌∙◌, ◌-◌, ◌/◌}
use Rattle.std.specs.Prelude.{codes}
use Rattle.c_tree.specs.declared.data.Expr.{the_lemmas}
use Rattle.c_tree.specs.declared.data.Expr.TheVariants.{Plus, Minus, Times}
use Rattle.c_print.specs.Printed.{as_part, as_factor}
use Rattle.c_print.specs.Data.{data_printed}
use Rattle.c_trace.specs.Lines.{cell_line, has_cells}
use Rattle.c_trace.specs.LeftSide.{level_of, closed_at, behind, opening}
use Rattle.c_trace.proofs.Writes.{cut_short, onward, all_written, cut_first, cut_second, third}
use Rattle.c_trace.proofs.DataLines.{data_const, data_cell}
use Rattle.c_trace.proofs.Cells.{cell-At, right-Plus, right-Minus, right-Times}
use Rattle.c_trace.proofs.LeftSides.{left_smaller, around, part_has, behind_split, link_const, link_cell, link_plus, link_minus, link_times}
use Rattle.c_trace.proofs.data.+data.Goals as goal

pub print_data-print_cell-requires : goal.print_data-print_cell-requires
print_data-print_cell-requires g t c = cell-At (g.V.View.scope c.args.view.now) (g.V.View.sight c.args.view.now) _ _ c.in-At.is c.requires

pub print_data-returns-in-Const : goal.print_data-returns-in-Const
print_data-returns-in-Const g t c = rw (data_const (cell_line (g.V.View.sight c.args.view.now)) c.args.e.now _ c.in-Const.is) c.print_constant.ensures

pub print_data-returns-in-At : goal.print_data-returns-in-At
print_data-returns-in-At g t c = rw (data_cell (cell_line (g.V.View.sight c.args.view.now)) c.args.e.now _ c.in-At.is) c.print_cell.ensures

pub print_data-print_operation-requires : goal.print_data-print_operation-requires
print_data-print_operation-requires g t c κs within = (search rules, (search rules, (search rules, (c.requires, left_smaller c.args.e.now c.in-Plus.is))))

pub print_operation-print_data-requires : goal.print_operation-print_data-requires
print_operation-print_data-requires g t c κs within = (search rules, (search rules, (search rules, part_has (g.V.View.scope c.args.view.now) (g.V.View.sight c.args.view.now) c.args.e.now c.walk-steps.result.rest.now c.walk-steps.result.steps c.walk-steps.ensures.rest c.requires.cells)))

pub print_operation-returns-in_err-print_opening : goal.print_operation-returns-in_err-print_opening
print_operation-returns-in_err-print_opening g t c = rw (around (cell_line (g.V.View.sight c.args.view.now)) c.args.e.now c.walk-steps.result.rest.now c.walk-steps.result.steps c.walk-steps.result.opened c.walk-steps.ensures.rest c.walk-steps.ensures.opened) (cut_first _ _ (opening c.walk-steps.result.opened) ((data_printed (cell_line (g.V.View.sight c.args.view.now)) c.walk-steps.result.rest.now).text) (behind (cell_line (g.V.View.sight c.args.view.now)) c.args.e.now c.walk-steps.result.steps) _ _ c.from_residual.ensures.0 c.in_err-print_opening.ensures)

pub print_operation-returns-in_err-print_data : goal.print_operation-returns-in_err-print_data
print_operation-returns-in_err-print_data g t c = rw (around (cell_line (g.V.View.sight c.args.view.now)) c.args.e.now c.walk-steps.result.rest.now c.walk-steps.result.steps c.walk-steps.result.opened c.walk-steps.ensures.rest c.walk-steps.ensures.opened) (cut_second _ _ _ (opening c.walk-steps.result.opened) ((data_printed (cell_line (g.V.View.sight c.args.view.now)) c.walk-steps.result.rest.now).text) (behind (cell_line (g.V.View.sight c.args.view.now)) c.args.e.now c.walk-steps.result.steps) _ _ c.from_residual-in_err-print_data.ensures.0 c.in_ok-print_opening.ensures.all c.in_err-print_data.ensures)

pub print_operation-returns : goal.print_operation-returns
print_operation-returns g t c = rw (around (cell_line (g.V.View.sight c.args.view.now)) c.args.e.now c.walk-steps.result.rest.now c.walk-steps.result.steps c.walk-steps.result.opened c.walk-steps.ensures.rest c.walk-steps.ensures.opened) (third _ _ _ _ (opening c.walk-steps.result.opened) ((data_printed (cell_line (g.V.View.sight c.args.view.now)) c.walk-steps.result.rest.now).text) (behind (cell_line (g.V.View.sight c.args.view.now)) c.args.e.now c.walk-steps.result.steps) _ c.in_ok-print_opening.ensures.all c.in_ok-print_data.ensures.all c.print_behind.ensures)

pub print_behind-print_behind-requires : goal.print_behind-print_behind-requires
print_behind-print_behind-requires g t c κs within = (search rules, (search rules, (search rules, (part_has (g.V.View.scope c.args.view.now) (g.V.View.sight c.args.view.now) c.args.e.now c.down.result.now (c.args.steps / 2) c.down.ensures.down c.requires.cells, omega arith))))

pub print_behind-returns-in_err-print_behind : goal.print_behind-returns-in_err-print_behind
print_behind-returns-in_err-print_behind g t c = rw (behind_split (cell_line (g.V.View.sight c.args.view.now)) c.args.e.now c.down.result.now c.args.steps (c.args.steps / 2) (omega arith) c.down.ensures.down) (cut_short _ _ (behind (cell_line (g.V.View.sight c.args.view.now)) c.down.result.now (c.args.steps - c.args.steps / 2)) (behind (cell_line (g.V.View.sight c.args.view.now)) c.args.e.now (c.args.steps / 2)) _ _ c.from_residual.ensures.0 c.in_err-print_behind.ensures)

pub print_behind-returns : goal.print_behind-returns
print_behind-returns g t c = rw (behind_split (cell_line (g.V.View.sight c.args.view.now)) c.args.e.now c.down.result.now c.args.steps (c.args.steps / 2) (omega arith) c.down.ensures.down) (onward _ _ _ (behind (cell_line (g.V.View.sight c.args.view.now)) c.down.result.now (c.args.steps - c.args.steps / 2)) (behind (cell_line (g.V.View.sight c.args.view.now)) c.args.e.now (c.args.steps / 2)) _ c.in_ok-print_behind.ensures.all c.print_behind-2.ensures)

pub print_link-returns-in-Const : goal.print_link-returns-in-Const
print_link-returns-in-Const g t c = rw (link_const (cell_line (g.V.View.sight c.args.view.now)) c.args.e.now _ c.in-Const.is) (all_written _ _)

pub print_link-returns-in-At : goal.print_link-returns-in-At
print_link-returns-in-At g t c = rw (link_cell (cell_line (g.V.View.sight c.args.view.now)) c.args.e.now _ c.in-At.is) (all_written _ _)

pub print_link-print_part-requires : goal.print_link-print_part-requires
print_link-print_part-requires g t c κs within = (search (rules, the_lemmas), (search rules, (search rules, ap (λ e. has_cells e (g.V.View.scope c.args.view.now) (g.V.View.sight c.args.view.now)) c.get.ensures ∙ right-Plus (g.V.View.scope c.args.view.now) (g.V.View.sight c.args.view.now) _ _ _ c.in-Plus.is c.requires)))

pub print_link-returns-in_err-write_all-in-Plus : goal.print_link-returns-in_err-write_all-in-Plus
print_link-returns-in_err-write_all-in-Plus g t c = rw (link_plus (cell_line (g.V.View.sight c.args.view.now)) c.args.e.now c.in-Plus.field-0 c.in-Plus.right c.in-Plus.is) (cut_short _ _ (codes " + ") ((as_part (data_printed (cell_line (g.V.View.sight c.args.view.now)) c.in-Plus.right)).text) _ _ c.from_residual.ensures.0 c.in_err-write_all-in-Plus.ensures)

pub print_link-returns-in_ok-write_all-in-Plus : goal.print_link-returns-in_ok-write_all-in-Plus
print_link-returns-in_ok-write_all-in-Plus g t c = rw (link_plus (cell_line (g.V.View.sight c.args.view.now)) c.args.e.now c.in-Plus.field-0 c.get.result.now (c.in-Plus.is ∙ ap (λ r. Plus c.in-Plus.field-0 r) (sym c.get.ensures))) (onward _ _ _ (codes " + ") ((as_part (data_printed (cell_line (g.V.View.sight c.args.view.now)) c.get.result.now)).text) _ c.in_ok-write_all-in-Plus.ensures.all c.print_part.ensures)

pub print_link-print_part-requires-in-Minus : goal.print_link-print_part-requires-in-Minus
print_link-print_part-requires-in-Minus g t c κs within = (search (rules, the_lemmas), (search rules, (search rules, ap (λ e. has_cells e (g.V.View.scope c.args.view.now) (g.V.View.sight c.args.view.now)) c.get-in-Minus.ensures ∙ right-Minus (g.V.View.scope c.args.view.now) (g.V.View.sight c.args.view.now) _ _ _ c.in-Minus.is c.requires)))

pub print_link-returns-in_err-write_all-in-Minus : goal.print_link-returns-in_err-write_all-in-Minus
print_link-returns-in_err-write_all-in-Minus g t c = rw (link_minus (cell_line (g.V.View.sight c.args.view.now)) c.args.e.now c.in-Minus.field-0 c.in-Minus.right c.in-Minus.is) (cut_short _ _ (codes " - ") ((as_part (data_printed (cell_line (g.V.View.sight c.args.view.now)) c.in-Minus.right)).text) _ _ c.from_residual-in_err-write_all-in-Minus.ensures.0 c.in_err-write_all-in-Minus.ensures)

pub print_link-returns-in_ok-write_all-in-Minus : goal.print_link-returns-in_ok-write_all-in-Minus
print_link-returns-in_ok-write_all-in-Minus g t c = rw (link_minus (cell_line (g.V.View.sight c.args.view.now)) c.args.e.now c.in-Minus.field-0 c.get-in-Minus.result.now (c.in-Minus.is ∙ ap (λ r. Minus c.in-Minus.field-0 r) (sym c.get-in-Minus.ensures))) (onward _ _ _ (codes " - ") ((as_part (data_printed (cell_line (g.V.View.sight c.args.view.now)) c.get-in-Minus.result.now)).text) _ c.in_ok-write_all-in-Minus.ensures.all c.print_part-in-Minus.ensures)

pub print_link-print_factor-requires : goal.print_link-print_factor-requires
print_link-print_factor-requires g t c κs within = (search (rules, the_lemmas), (search rules, (search rules, ap (λ e. has_cells e (g.V.View.scope c.args.view.now) (g.V.View.sight c.args.view.now)) c.get-in-Times-2.ensures ∙ right-Times (g.V.View.scope c.args.view.now) (g.V.View.sight c.args.view.now) _ _ _ c.in-Times.is c.requires)))

pub print_link-returns-in_err-print_closing-in-Times : goal.print_link-returns-in_err-print_closing-in-Times
print_link-returns-in_err-print_closing-in-Times g t c = rw (link_times (cell_line (g.V.View.sight c.args.view.now)) c.args.e.now c.get-in-Times.result.now c.in-Times.right (c.in-Times.is ∙ ap (λ l. Times l c.in-Times.right) (sym c.get-in-Times.ensures))) (cut_first _ _ (closed_at (level_of c.get-in-Times.result.now)) (codes " * ") ((as_factor (data_printed (cell_line (g.V.View.sight c.args.view.now)) c.in-Times.right)).text) _ _ c.from_residual-in_err-print_closing-in-Times.ensures.0 c.in_err-print_closing-in-Times.ensures)

pub print_link-returns-in_err-write_all-in-Times : goal.print_link-returns-in_err-write_all-in-Times
print_link-returns-in_err-write_all-in-Times g t c = rw (link_times (cell_line (g.V.View.sight c.args.view.now)) c.args.e.now c.get-in-Times.result.now c.in-Times.right (c.in-Times.is ∙ ap (λ l. Times l c.in-Times.right) (sym c.get-in-Times.ensures))) (cut_second _ _ _ (closed_at (level_of c.get-in-Times.result.now)) (codes " * ") ((as_factor (data_printed (cell_line (g.V.View.sight c.args.view.now)) c.in-Times.right)).text) _ _ c.from_residual-in_err-write_all-in-Times.ensures.0 c.in_ok-print_closing-in-Times.ensures.all c.in_err-write_all-in-Times.ensures)

pub print_link-returns-in_ok-write_all-in-Times : goal.print_link-returns-in_ok-write_all-in-Times
print_link-returns-in_ok-write_all-in-Times g t c = rw (link_times (cell_line (g.V.View.sight c.args.view.now)) c.args.e.now c.get-in-Times.result.now c.get-in-Times-2.result.now (c.in-Times.is ∙ ap (λ l. Times l c.in-Times.right) (sym c.get-in-Times.ensures) ∙ ap (λ r. Times c.get-in-Times.result.now r) (sym c.get-in-Times-2.ensures))) (third _ _ _ _ (closed_at (level_of c.get-in-Times.result.now)) (codes " * ") ((as_factor (data_printed (cell_line (g.V.View.sight c.args.view.now)) c.get-in-Times-2.result.now)).text) _ c.in_ok-print_closing-in-Times.ensures.all c.in_ok-write_all-in-Times.ensures.all c.print_factor.ensures)

pub print_in_parentheses-returns-in_err-write_all : goal.print_in_parentheses-returns-in_err-write_all
print_in_parentheses-returns-in_err-write_all g t c = cut_first _ _ (codes "(") ((data_printed (cell_line (g.V.View.sight c.args.view.now)) c.args.e.now).text) (codes ")") _ _ c.from_residual.ensures.0 c.in_err-write_all.ensures

pub print_in_parentheses-returns-in_err-print_data : goal.print_in_parentheses-returns-in_err-print_data
print_in_parentheses-returns-in_err-print_data g t c = cut_second _ _ _ (codes "(") ((data_printed (cell_line (g.V.View.sight c.args.view.now)) c.args.e.now).text) (codes ")") _ _ c.from_residual-in_err-print_data.ensures.0 c.in_ok-write_all.ensures.all c.in_err-print_data.ensures

pub print_in_parentheses-returns : goal.print_in_parentheses-returns
print_in_parentheses-returns g t c = third _ _ _ _ (codes "(") ((data_printed (cell_line (g.V.View.sight c.args.view.now)) c.args.e.now).text) (codes ")") _ c.in_ok-write_all.ensures.all c.in_ok-print_data.ensures.all c.write_all-2.ensures
