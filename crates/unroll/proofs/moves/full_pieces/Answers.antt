use Rattle.affine_moves.proofs.Places.{range-push}
use Rattle.unroll.proofs.moves.full_pieces.Goals as goal

pub loop-copy-preserved : goal.loop-copy-preserved
loop-copy-preserved c = range-push _ _ _ _ _ c.in_ok-push.ensures.ok c.in_ok-make_copy.ensures c.loop-copy.invariant
