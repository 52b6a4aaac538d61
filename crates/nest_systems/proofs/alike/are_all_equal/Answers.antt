use Rattle.std.proofs.Common.{sym}
use Rattle.nest_systems.proofs.Ranging.{unlike}
use Rattle.nest_systems.proofs.alike.are_all_equal.Goals as goal

pub returns-then-x-y : goal.returns-then-x-y
returns-then-x-y c = sym (unlike c.args.first c.args.same.now c.args.x.now c.args.y.now c.if-x-y.true)
