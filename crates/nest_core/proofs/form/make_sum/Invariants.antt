use Rattle.nest_core.proofs.Sums.{Sums}
use Rattle.nest_core.proofs.form.make_sum.Given as goal

abbrev pub invariant-loop-i : goal.invariant-loop-i
invariant-loop-i l = Sums l.var l.levels l.old l.start l.i l.total
