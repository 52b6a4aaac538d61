use Rattle.nest_systems.proofs.Mapping.{range-push}
use Rattle.compact.proofs.variables.image_forms.Goals as goal

pub loop-i-preserved : goal.loop-i-preserved
loop-i-preserved c = range-push _ _ _ _ _ c.in_ok-push.ensures.ok c.in_ok-image_at.ensures c.loop-i.invariant
