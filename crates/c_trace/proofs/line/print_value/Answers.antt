use Rattle.std.specs.Prelude.{codes}
use Rattle.c_trace.specs.Lines.{data_line}
use Rattle.c_trace.proofs.Writes.{cut_short, onward}
use Rattle.c_trace.proofs.line.print_value.Goals as goal

pub returns-in_err-print_data : goal.returns-in_err-print_data
returns-in_err-print_data g c = cut_short _ _ (data_line (g.V.View.sight c.args.view.now) c.args.value.now) (codes "\n") _ _ c.from_residual.ensures.0 c.in_err-print_data.ensures

pub returns : goal.returns
returns g c = onward _ _ _ (data_line (g.V.View.sight c.args.view.now) c.args.value.now) (codes "\n") _ c.in_ok-print_data.ensures.all c.write_all.ensures
