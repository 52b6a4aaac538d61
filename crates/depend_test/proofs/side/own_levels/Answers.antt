use Rattle.nest_systems.proofs.Mapping.{range-push-from}
use Rattle.depend_test.proofs.side.own_levels.Goals as goal

pub loop-level-preserved : goal.loop-level-preserved
loop-level-preserved c = range-push-from _ _ _ _ _ _ c.in_ok-push.ensures.ok c.in_ok-unit_form.ensures.value c.loop-level.invariant
