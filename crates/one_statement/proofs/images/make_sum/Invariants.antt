use Rattle.nest_core.proofs.Sums.{Sums}
use Rattle.one_statement.proofs.images.make_sum.Given as goal

abbrev pub invariant-loop-i : goal.invariant-loop-i
invariant-loop-i l = Sums l.var l.coefs l.forms l.start l.i l.total
