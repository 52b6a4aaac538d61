use Rattle.nest_core.proofs.Makes.{makes-more}
use Rattle.depend_test.proofs.side.make_own_pieces.Goals as goal

pub loop-piece-preserved : goal.loop-piece-preserved
loop-piece-preserved c = makes-more _ _ _ _ _ _ _ c.loop-piece-test.true c.piece-item.is c.in_ok-make_nest.ensures c.in_ok-push.ensures.ok c.loop-piece.invariant
