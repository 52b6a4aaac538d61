use Rattle.std.proofs.Common.{length}
use Rattle.nest_core.specs.Pieces.{nest_of_piece}
use Rattle.nest_core.proofs.Makes.{Makes}
use Rattle.depend_test.proofs.side.make_own_pieces.Given as goal

abbrev pub invariant-loop-piece : goal.invariant-loop-piece
invariant-loop-piece l = Makes (nest_of_piece (length l.head.params) l.alone l.nest) l.pieces l.piece-index l.nests
