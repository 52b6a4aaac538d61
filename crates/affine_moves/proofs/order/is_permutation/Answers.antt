use Rattle.affine_moves.proofs.Orders.{holds-more, holds-not}
use Rattle.affine_moves.proofs.order.is_permutation.Goals as goal

pub returns-then-not-holds_next : goal.returns-then-not-holds_next
returns-then-not-holds_next c = holds-not _ _ _ _ c.loop-t-test.true c.if-not-holds_next.ensures c.loop-t.invariant

pub loop-t-preserved : goal.loop-t-preserved
loop-t-preserved c = holds-more _ _ _ _ c.loop-t-test.true c.if-not-holds_next.ensures c.loop-t.invariant
