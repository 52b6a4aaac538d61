use Rattle.std.proofs.Common.{◌++◌}
use Rattle.c_print.specs.Statement.{how_text}
use Rattle.std.specs.Prelude.{codes}
use Rattle.c_trace.specs.Lines.{place_line, cell_line, data_line}
use Rattle.c_trace.proofs.Writes.{cut_short, onward}
use Rattle.c_trace.proofs.line.print_assignment.Goals as goal

pub returns-in_err-print_front : goal.returns-in_err-print_front
returns-in_err-print_front g c = cut_short _ _ (place_line c.args.place.now ++ codes " ") (cell_line (g.V.View.sight c.args.view.now) c.args.target.now ++ how_text c.args.how ++ (data_line (g.V.View.sight c.args.view.now) c.args.value.now ++ codes "\n")) _ _ c.from_residual.ensures.0 c.in_err-print_front.ensures

pub returns : goal.returns
returns g c = onward _ _ _ (place_line c.args.place.now ++ codes " ") (cell_line (g.V.View.sight c.args.view.now) c.args.target.now ++ how_text c.args.how ++ (data_line (g.V.View.sight c.args.view.now) c.args.value.now ++ codes "\n")) _ c.in_ok-print_front.ensures.all c.print_statement.ensures
