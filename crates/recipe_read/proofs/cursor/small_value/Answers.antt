use Rattle.std.proofs.Common.{◌≡◌, ◌+◌, ◌*◌, take, sym, arith}
use Rattle.recipe_read.specs.Cursor.{value}
use Rattle.recipe_read.proofs.Numbers.{past_limit, step_value}
use Rattle.recipe_read.proofs.cursor.small_value.Goals as goal

pub returns-then-value-gt-MOST-clause-value : goal.returns-then-value-gt-MOST-clause-value
returns-then-value-gt-MOST-clause-value c =
    let digits = c.args.digits.now in
    let i = c.loop-digit.digit-index in
    let step = step_value digits i c.loop-digit-test.true in
    let e : 10 * c.loop-digit.value + c.from.result ≡ value (take (i + 1) digits) = omega (arith, step) in
    sym (past_limit digits (i + 1) _ e c.if-value-gt-MOST.true)
