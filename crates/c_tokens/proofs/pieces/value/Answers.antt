use Rattle.std.proofs.Common.{arith}
use Rattle.c_tokens.proofs.Digits.{value_at}
use Rattle.c_tokens.proofs.pieces.value.Goals as goal

pub returns-in_err-checked_mul-clause-large : goal.returns-in_err-checked_mul-clause-large
returns-in_err-checked_mul-clause-large c =
    let h = value_at c.args.digits.now c.loop-b.b-index 0 (omega arith) in λ none. omega (arith, c.in_err-checked_mul.ensures)
