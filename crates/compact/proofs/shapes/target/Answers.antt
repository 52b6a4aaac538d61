use Rattle.std.proofs.Common.{sym}
use Rattle.compact.proofs.Targets.{target-found}
use Rattle.compact.proofs.shapes.target.Goals as goal

pub returns-in-Some-clause-target : goal.returns-in-Some-clause-target
returns-in-Some-clause-target c =
    let t = c.nest_target.ensures in
    target-found c.args.kernel.now c.args.statement c.args.level c.in-Some.nest.now c.nest_target.result (sym c.in-Some.ensures.value) t.low t.high t.target t.whole
