use Rattle.int_sets.proofs.Calls.{Excludes}
use Rattle.int_sets.proofs.system.System.excluded.Given as goal

abbrev pub invariant-loop-left : goal.invariant-loop-left
invariant-loop-left l = Excludes l.self l.left l.system

abbrev pub decreases-loop-left : goal.decreases-loop-left
decreases-loop-left l = l.left
