use Rattle.fuse_distribute.proofs.Standing.{Pieces}
use Rattle.fuse_distribute.proofs.moving.pieces_at.Given as goal

abbrev pub invariant-loop-i : goal.invariant-loop-i
invariant-loop-i l = Pieces l.head l.nests l.places l.i l.pieces
