use Rattle.std.proofs.Common.{◌∙◌, ap}
use Rattle.affine_moves.specs.Levels.{form_at}
use Rattle.affine_moves.proofs.Places.{range-push}
use Rattle.affine_moves.proofs.piece.ordered_levels.Goals as goal

pub loop-place-preserved : goal.loop-place-preserved
loop-place-preserved c = range-push _ _ _ _ _ c.in_ok-push.ensures.ok (c.form_at.ensures ∙ ap (form_at c.args.levels.now) c.old_at.ensures.value) c.loop-place.invariant
