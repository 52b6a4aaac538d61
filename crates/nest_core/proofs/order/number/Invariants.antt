use Rattle.nest_core.proofs.Counting.{Counted}
use Rattle.nest_core.proofs.order.number.Given as goal

abbrev pub invariant-loop-i : goal.invariant-loop-i
invariant-loop-i l = Counted l.fn.nests.items l.i l.nests.items l.old l.before
