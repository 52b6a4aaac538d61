use Rattle.affine_moves.proofs.Places.{range-push}
use Rattle.affine_moves.proofs.form.old_forms.Goals as goal

pub loop-level-preserved : goal.loop-level-preserved
loop-level-preserved c = range-push _ _ _ _ _ c.in_ok-push.ensures.ok c.in_ok-old_form.ensures c.loop-level.invariant
