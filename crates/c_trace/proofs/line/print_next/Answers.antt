use Rattle.std.specs.Prelude.{codes}
use Rattle.std.specs.Fmt.{signed_decimal}
use Rattle.c_trace.proofs.Writes.{cut_short, onward}
use Rattle.c_trace.proofs.line.print_next.Goals as goal

pub returns-in_err-write_all : goal.returns-in_err-write_all
returns-in_err-write_all g c = cut_short _ _ (codes ".") (signed_decimal c.args.number.now) _ _ c.from_residual.ensures.0 c.in_err-write_all.ensures

pub returns : goal.returns
returns g c = onward _ _ _ (codes ".") (signed_decimal c.args.number.now) _ c.in_ok-write_all.ensures.all c.print_number.ensures
