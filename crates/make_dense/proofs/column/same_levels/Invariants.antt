use Rattle.std.proofs.Common.{◌≡◌, ◌+◌, map}
use Rattle.std.specs.List.{range_with_len}
use Rattle.affine_moves.specs.Change.{unit}
use Rattle.make_dense.proofs.column.same_levels.Given as goal

abbrev pub invariant-loop-level : goal.invariant-loop-level
invariant-loop-level l = l.forms ≡ map (λ k. unit l.vars (l.params + k)) (range_with_len 0 l.level)
