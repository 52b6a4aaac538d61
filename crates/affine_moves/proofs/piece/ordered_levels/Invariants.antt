use Rattle.std.proofs.Common.{◌≡◌, map}
use Rattle.std.specs.List.{range_with_len}
use Rattle.affine_moves.specs.Levels.{form_at}
use Rattle.affine_moves.specs.Change.{old_at}
use Rattle.affine_moves.proofs.piece.ordered_levels.Given as goal

abbrev pub invariant-loop-place : goal.invariant-loop-place
invariant-loop-place l = l.forms ≡ map (λ t. form_at l.levels (old_at l.order t)) (range_with_len 0 l.place)
