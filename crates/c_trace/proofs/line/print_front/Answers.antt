use Rattle.std.specs.Prelude.{codes}
use Rattle.c_trace.specs.Lines.{place_line}
use Rattle.c_trace.proofs.Writes.{cut_short, onward}
use Rattle.c_trace.proofs.line.print_front.Goals as goal

pub returns-in_err-print_place : goal.returns-in_err-print_place
returns-in_err-print_place g c = cut_short _ _ (place_line c.args.place.now) (codes " ") _ _ c.from_residual.ensures.0 c.in_err-print_place.ensures

pub returns : goal.returns
returns g c = onward _ _ _ (place_line c.args.place.now) (codes " ") _ c.in_ok-print_place.ensures.all c.write_all.ensures
