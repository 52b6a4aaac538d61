use Rattle.affine_moves.proofs.Making.{pieces-none, pieces-more}
use Rattle.affine_moves.proofs.moves.make_pieces.Goals as goal

pub loop-i-init : goal.loop-i-init
loop-i-init c = rw c.new-pieces.ensures (pieces-none _ _ _ _ c.requires.shaped c.requires.suits)

pub loop-i-preserved : goal.loop-i-preserved
loop-i-preserved c =
    pieces-more _ _ _ _ c.loop-i.i c.index-nests-i.result _ c.loop-i-test.true c.index-nests-i.is c.loop-i.invariant _ _ _ c.in_ok-piece.ensures c.in_ok-list_of.ensures c.in_ok-push.ensures.ok
