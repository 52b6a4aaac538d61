use Rattle.std.proofs.Common.{◌<◌, ◌+◌, pos, refl, ap, length, drop, get_or, arith}
use Rattle.c_trace.specs.Lines.{brackets, subscript_line}
use Rattle.c_trace.proofs.Writes.{begins, goes_on, breaks_off, is_done, drop-next, drop-past, answered}
use Rattle.c_trace.proofs.cell.print_subscripts.Goals as goal

pub loop-index-init : goal.loop-index-init
loop-index-init g c = begins _ (brackets c.args.at.now) _ refl

pub returns-in-Err : goal.returns-in-Err
returns-in-Err g c =
    let lt : c.loop-index.index-index < length c.args.at.now = omega (arith, c.loop-index-test.true) in
    breaks_off _ _ _ (brackets c.args.at.now) (brackets (drop c.loop-index.index-index c.args.at.now)) (subscript_line (get_or c.args.at.now c.loop-index.index-index (pos 0))) (brackets (drop (c.loop-index.index-index + 1) c.args.at.now)) c.in-Err.failed c.loop-index.invariant (ap brackets (drop-next c.args.at.now c.loop-index.index-index (pos 0) lt)) c.in-Err.ensures

pub loop-index-preserved : goal.loop-index-preserved
loop-index-preserved g c =
    let lt : c.loop-index.index-index < length c.args.at.now = omega (arith, c.loop-index-test.true) in
    goes_on _ _ _ (brackets c.args.at.now) (brackets (drop c.loop-index.index-index c.args.at.now)) (subscript_line (get_or c.args.at.now c.loop-index.index-index (pos 0))) (brackets (drop (c.loop-index.index-index + 1) c.args.at.now)) _ c.loop-index.invariant (ap brackets (drop-next c.args.at.now c.loop-index.index-index (pos 0) lt)) (answered _ _ _ c.print_subscript.result _ c.in_default.is c.print_subscript.ensures)

pub returns : goal.returns
returns g c = is_done _ _ (brackets c.args.at.now) _ tt c.loop-index.invariant (ap brackets (drop-past c.args.at.now c.loop-index.index-index (omega (arith, c.loop-index-test.false))))
