use Rattle.nest_core.proofs.Nests.{Nests}
use Rattle.nest_core.proofs.apply.make_all.Given as goal

abbrev pub invariant-loop-i : goal.invariant-loop-i
invariant-loop-i l = Nests l.head l.nests l.pieces l.i l.new
