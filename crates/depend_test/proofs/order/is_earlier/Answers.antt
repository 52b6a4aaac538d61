use Rattle.std.proofs.Common.{rules}
use Rattle.nest_core.proofs.Sharing.{earlier-end}
use Rattle.depend_test.proofs.order.is_earlier.Goals as goal

pub returns : goal.returns
returns c = earlier-end _ _ _ _ _ c.min-both.ensures (search rules) (search rules) c.loop-i.invariant
