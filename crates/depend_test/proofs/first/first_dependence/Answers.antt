use Rattle.depend_test.proofs.Carrying.{moved-answer}
use Rattle.depend_test.proofs.first.first_dependence.Goals as goal

pub returns : goal.returns
returns c = moved-answer c.args.kernel.now c.args.moves.now c.in_ok-all.all c.as_slice.result.now _ c.as_slice.ensures c.in_ok-all.ensures.moved c.first_dependence_among.ensures
