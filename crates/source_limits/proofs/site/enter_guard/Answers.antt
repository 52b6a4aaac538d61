use Rattle.source_limits.proofs.Counting.{count_loops-guard}
use Rattle.source_limits.proofs.site.enter_guard.Goals as goal

pub returns-clause-count : goal.returns-clause-count
returns-clause-count c = count_loops-guard _ _ _ _ c.in_ok-push.ensures.items
