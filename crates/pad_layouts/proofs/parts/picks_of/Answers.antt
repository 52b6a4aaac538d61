use Rattle.std.proofs.Common.{refl}
use Rattle.pad_layouts.proofs.Mapping.{range-push}
use Rattle.pad_layouts.proofs.parts.picks_of.Goals as goal

pub loop-param-preserved : goal.loop-param-preserved
loop-param-preserved c = range-push _ _ _ _ _ c.in_ok-push.ensures.items refl c.loop-param.invariant
