use Rattle.nest_systems.proofs.Mapping.{range-push}
use Rattle.std.proofs.Common.{refl}
use Rattle.depend_test.proofs.order.levels_to.Goals as goal

pub loop-level-preserved : goal.loop-level-preserved
loop-level-preserved c = range-push _ _ _ _ _ c.in_ok-push.ensures.ok refl c.loop-level.invariant
