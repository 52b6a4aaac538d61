use Rattle.std.proofs.Common.{rules}
use Rattle.nest_core.proofs.Sharing.{shared-end}
use Rattle.nest_core.proofs.order.shared_loops.Goals as goal

pub returns-clause-value : goal.returns-clause-value
returns-clause-value c = shared-end _ _ _ _ _ _ c.saturating_sub-levels.ensures c.min.ensures (search rules) (search rules) c.loop-common.invariant
