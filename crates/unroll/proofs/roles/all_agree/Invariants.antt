use Rattle.unroll.proofs.Pairing.{Paired}
use Rattle.unroll.proofs.roles.all_agree.Given as goal

abbrev pub invariant-loop-i : goal.invariant-loop-i
invariant-loop-i l = Paired l.head l.level l.nests l.roles l.i
