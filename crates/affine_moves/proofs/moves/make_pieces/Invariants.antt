use Rattle.affine_moves.proofs.Making.{Pieces}
use Rattle.affine_moves.proofs.moves.make_pieces.Given as goal

abbrev pub invariant-loop-i : goal.invariant-loop-i
invariant-loop-i l = Pieces l.head l.change l.applies l.nests l.i l.pieces
