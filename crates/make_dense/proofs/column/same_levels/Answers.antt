use Rattle.std.proofs.Common.{◌+◌}
use Rattle.affine_moves.specs.Change.{unit}
use Rattle.affine_moves.proofs.Places.{range-push}
use Rattle.make_dense.proofs.column.same_levels.Goals as goal

pub loop-level-preserved : goal.loop-level-preserved
loop-level-preserved c = range-push (λ k. unit c.args.vars (c.args.params + k)) c.loop-level.level _ _ _ c.in_ok-push.ensures.ok c.in_ok-unit.ensures c.loop-level.invariant
