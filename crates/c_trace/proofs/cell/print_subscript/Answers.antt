use Rattle.std.specs.Prelude.{codes}
use Rattle.std.specs.Fmt.{signed_decimal}
use Rattle.c_trace.proofs.Writes.{cut_first, cut_second, third}
use Rattle.c_trace.proofs.cell.print_subscript.Goals as goal

pub returns-in_err-write_all : goal.returns-in_err-write_all
returns-in_err-write_all g c = cut_first _ _ (codes "[") (signed_decimal c.args.index.now) (codes "]") _ _ c.from_residual.ensures.0 c.in_err-write_all.ensures

pub returns-in_err-print_number : goal.returns-in_err-print_number
returns-in_err-print_number g c = cut_second _ _ _ (codes "[") (signed_decimal c.args.index.now) (codes "]") _ _ c.from_residual-in_err-print_number.ensures.0 c.in_ok-write_all.ensures.all c.in_err-print_number.ensures

pub returns : goal.returns
returns g c = third _ _ _ _ (codes "[") (signed_decimal c.args.index.now) (codes "]") _ c.in_ok-write_all.ensures.all c.in_ok-print_number.ensures.all c.write_all-2.ensures
