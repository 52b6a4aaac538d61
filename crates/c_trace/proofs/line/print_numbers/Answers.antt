use Rattle.std.proofs.Common.{◌<◌, ◌+◌, pos, refl, ap, length, drop, get_or, arith}
use Rattle.c_trace.specs.Lines.{numbers_behind, number_line}
use Rattle.c_trace.proofs.Writes.{begins, goes_on, breaks_off, is_done, drop-next, drop-past, answered}
use Rattle.c_trace.proofs.line.print_numbers.Goals as goal

pub loop-number-init : goal.loop-number-init
loop-number-init g c = begins _ (numbers_behind c.args.numbers.now) _ refl

pub returns-in-Err : goal.returns-in-Err
returns-in-Err g c =
    let lt : c.loop-number.number-index < length c.args.numbers.now = omega (arith, c.loop-number-test.true) in
    breaks_off _ _ _ (numbers_behind c.args.numbers.now) (numbers_behind (drop c.loop-number.number-index c.args.numbers.now)) (number_line (get_or c.args.numbers.now c.loop-number.number-index (pos 0))) (numbers_behind (drop (c.loop-number.number-index + 1) c.args.numbers.now)) c.in-Err.failed c.loop-number.invariant (ap numbers_behind (drop-next c.args.numbers.now c.loop-number.number-index (pos 0) lt)) c.in-Err.ensures

pub loop-number-preserved : goal.loop-number-preserved
loop-number-preserved g c =
    let lt : c.loop-number.number-index < length c.args.numbers.now = omega (arith, c.loop-number-test.true) in
    goes_on _ _ _ (numbers_behind c.args.numbers.now) (numbers_behind (drop c.loop-number.number-index c.args.numbers.now)) (number_line (get_or c.args.numbers.now c.loop-number.number-index (pos 0))) (numbers_behind (drop (c.loop-number.number-index + 1) c.args.numbers.now)) _ c.loop-number.invariant (ap numbers_behind (drop-next c.args.numbers.now c.loop-number.number-index (pos 0) lt)) (answered _ _ _ c.print_next.result _ c.in_default.is c.print_next.ensures)

pub returns : goal.returns
returns g c = is_done _ _ (numbers_behind c.args.numbers.now) _ tt c.loop-number.invariant (ap numbers_behind (drop-past c.args.numbers.now c.loop-number.number-index (omega (arith, c.loop-number-test.false))))
