use Rattle.unroll.proofs.Pairing.{Pieces}
use Rattle.unroll.proofs.moves.all_pieces.Given as goal

abbrev pub invariant-loop-i : goal.invariant-loop-i
invariant-loop-i l = Pieces l.head l.plan.level l.plan.factor l.plan.count l.plan.rests l.nest l.nests l.roles l.i l.pieces
