use Rattle.std.specs.Prelude.{Some, None}
use Rattle.make_dense.proofs.Fitted.{dense-fits}
use Rattle.make_dense.proofs.Tested.{tested-order}
use Rattle.make_dense.proofs.command.test_order.Goals as goal

pub moves_with-requires-clause-fits : goal.moves_with-requires-clause-fits
moves_with-requires-clause-fits c =
    let j = c.requires.judged in
    rw c.in_ok-piece.ensures (dense-fits c.args.kernel.now.head c.args.nest.now c.args.level c.args.matrix.now j.shaped j.low j.high j.few)

pub returns-in-Ok-None-clause-tested : goal.returns-in-Ok-None-clause-tested
returns-in-Ok-None-clause-tested c =
    tested-order c.args.kernel.now c.args.statement c.args.nest.now c.args.level c.args.matrix.now _ _ None c.in_ok-piece.ensures c.in_ok-moves.ensures.value (rw c.in-Ok-None.field-0-is at c.in-Ok-None.ensures)

pub returns-in-Ok-Some-clause-faults : goal.returns-in-Ok-Some-clause-faults
returns-in-Ok-Some-clause-faults c =
    tested-order c.args.kernel.now c.args.statement c.args.nest.now c.args.level c.args.matrix.now _ _ (Some c.in-Ok-Some.dependence) c.in_ok-piece.ensures c.in_ok-moves.ensures.value (rw c.in-Ok-Some.field-0-is at c.in-Ok-Some.ensures)
