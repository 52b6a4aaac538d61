use Rattle.affine_moves.proofs.Places.{range-push}
use Rattle.make_dense.proofs.piece.old_forms.Goals as goal

pub loop-place-preserved : goal.loop-place-preserved
loop-place-preserved c = range-push _ _ _ _ _ c.in_ok-push.ensures.ok c.in_ok-old_form.ensures c.loop-place.invariant
