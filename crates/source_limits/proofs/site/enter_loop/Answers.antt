use Rattle.source_limits.proofs.Counting.{count_loops-loop}
use Rattle.source_limits.proofs.site.enter_loop.Goals as goal

pub returns-clause-count : goal.returns-clause-count
returns-clause-count c = count_loops-loop _ _ _ _ _ _ c.in_ok-push.ensures.items
