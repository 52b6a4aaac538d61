use Rattle.unroll.proofs.Pairing.{pieces-none, pieces-more}
use Rattle.unroll.proofs.moves.all_pieces.Goals as goal

pub loop-i-init : goal.loop-i-init
loop-i-init c = rw c.new-pieces.ensures (pieces-none _ _ _ _ _ _ _ _ c.requires.shaped c.requires.placed c.requires.roles)

pub loop-i-preserved : goal.loop-i-preserved
loop-i-preserved c =
    pieces-more _ _ _ _ _ _ _ _ c.loop-i.i c.index-nests-i.result c.index-roles-i.result _ c.loop-i-test.true c.index-nests-i.is c.index-roles-i.is c.loop-i.invariant _ _ c.in_ok-pieces_of.ensures c.in_ok-push.ensures.ok
