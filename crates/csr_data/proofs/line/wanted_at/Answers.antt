use Rattle.std.proofs.Common.{◌-◌, length, get_or, ap, ◌∙◌, arith}
use Rattle.csr_data.proofs.Dues.{parameter_at, array_at, none_at}
use Rattle.csr_data.proofs.line.wanted_at.Goals as goal

pub returns-then-lines-params : goal.returns-then-lines-params
returns-then-lines-params c =
    let xs = c.as_slice-params.ensures in
    parameter_at c.args.program.now c.args.lines _ (omega (arith, ap length xs, c.if-lines-params.true)) (c.index-params-lines.is ∙ ap (λ l. get_or l c.args.lines c.index-params-lines.result) xs)

pub returns-then-at-arrays : goal.returns-then-at-arrays
returns-then-at-arrays c =
    let xs = ap length c.as_slice-params.ensures in
    let ys = c.as_slice-arrays.ensures in
    array_at c.args.program.now c.args.lines (c.args.lines - length c.as_slice-params.result.now) c.index-arrays-at.result (omega (arith, xs, c.if-lines-params.false)) (omega (arith, ap length ys, c.if-at-arrays.true))
    (c.index-arrays-at.is ∙ ap (λ l. get_or l (c.args.lines - length c.as_slice-params.result.now) c.index-arrays-at.result) ys)

pub returns-else-at-arrays : goal.returns-else-at-arrays
returns-else-at-arrays c =
    let xs = ap length c.as_slice-params.ensures in
    let ys = ap length c.as_slice-arrays.ensures in
    none_at c.args.program.now c.args.lines (omega (arith, xs, ys, c.if-lines-params.false, c.if-at-arrays.false))
