use Rattle.std.proofs.Common.{◌++◌, sym}
use Rattle.std.specs.Prelude.{codes}
use Rattle.c_print.specs.Statement.{how_text}
use Rattle.c_trace.specs.Lines.{cell_line, data_line}
use Rattle.c_trace.proofs.Writes.{cut_first, cut_second, third}
use Rattle.c_trace.proofs.line.print_statement.Goals as goal

pub returns-in_err-print_cell : goal.returns-in_err-print_cell
returns-in_err-print_cell g c = cut_first _ _ (cell_line (g.V.View.sight c.args.view.now) c.args.target.now) (how_text c.args.how) (data_line (g.V.View.sight c.args.view.now) c.args.value.now ++ codes "\n") _ _ c.from_residual.ensures.0 c.in_err-print_cell.ensures

pub returns-in_err-write_all : goal.returns-in_err-write_all
returns-in_err-write_all g c = cut_second _ _ _ (cell_line (g.V.View.sight c.args.view.now) c.args.target.now) (how_text c.args.how) (data_line (g.V.View.sight c.args.view.now) c.args.value.now ++ codes "\n") _ _ c.from_residual-in_err-write_all.ensures.0 c.in_ok-print_cell.ensures.all (rw (sym c.sign_of.ensures) c.in_err-write_all.ensures)

pub returns : goal.returns
returns g c = third _ _ _ _ (cell_line (g.V.View.sight c.args.view.now) c.args.target.now) (how_text c.args.how) (data_line (g.V.View.sight c.args.view.now) c.args.value.now ++ codes "\n") _ c.in_ok-print_cell.ensures.all (rw (sym c.sign_of.ensures) c.in_ok-write_all.ensures.all) c.print_value.ensures
