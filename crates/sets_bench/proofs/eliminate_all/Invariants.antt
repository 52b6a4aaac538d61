use Rattle.std.proofs.Common.{◌≤◌}
use Rattle.sets_bench.proofs.eliminate_all.Given as goal

abbrev pub invariant-loop-left : goal.invariant-loop-left
invariant-loop-left l = l.left ≤ l.system.vars

abbrev pub decreases-loop-left : goal.decreases-loop-left
decreases-loop-left l = l.left
