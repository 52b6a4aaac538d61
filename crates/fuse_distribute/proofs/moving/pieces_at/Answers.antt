use Rattle.std.proofs.Common.{◌∙◌}
use Rattle.fuse_distribute.proofs.Standing.{pieces-none, pieces-more}
use Rattle.fuse_distribute.proofs.moving.pieces_at.Goals as goal

pub loop-i-init : goal.loop-i-init
loop-i-init c = rw c.new-pieces.ensures (pieces-none _ _ _ c.requires.shaped c.requires.places)

pub loop-i-preserved : goal.loop-i-preserved
loop-i-preserved c =
    pieces-more _ _ _ c.loop-i.i c.index-nests-i.result c.index-places-i.result _ c.loop-i-test.true c.index-nests-i.is c.index-places-i.is c.loop-i.invariant _ _ _ _ (c.in_ok-positions.ensures ∙ c.as_slice.ensures) c.in_ok-piece.ensures c.in_ok-list_of.ensures c.in_ok-push.ensures.ok
