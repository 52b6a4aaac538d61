use Rattle.std.proofs.Common.{refl}
use Rattle.nest_systems.proofs.Choosing.{order-kept}
use Rattle.nest_systems.proofs.choose.push_order.Goals as goal

pub returns-clause-kept : goal.returns-clause-kept
returns-clause-kept c = order-kept _ _ c.args.chosen.now c.requires.chosen _ _ c.requires.term refl c.in_ok-push.ensures.ok refl refl
