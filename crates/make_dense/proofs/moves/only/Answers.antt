use Rattle.std.proofs.Common.{nat_eq, refl}
use Rattle.affine_moves.proofs.Places.{range-push}
use Rattle.make_dense.proofs.moves.only.Goals as goal

pub loop-i-preserved : goal.loop-i-preserved
loop-i-preserved c = range-push (λ j. nat_eq j c.args.statement) _ _ _ _ c.in_ok-push.ensures.ok refl c.loop-i.invariant
