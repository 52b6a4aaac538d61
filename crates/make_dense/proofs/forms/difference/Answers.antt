use Rattle.std.proofs.Common.{rules, ◌∙◌}
use Rattle.std.proofs.lemmas.Int.{to_z-of_z}
use mir.Val.{SFits}
use mir.Syntax.{w128}
use Rattle.affine_moves.proofs.Places.{range-push}
use Rattle.make_dense.specs.Forms.{coef_of_difference}
use Rattle.make_dense.proofs.forms.difference.Goals as goal

pub loop-var-preserved : goal.loop-var-preserved
loop-var-preserved c =
    let f : SFits w128 c.coef_of_difference.result = search rules in
    range-push (coef_of_difference c.args.x c.args.y) c.loop-var.var _ _ _ c.in_ok-push.ensures.ok (to_z-of_z w128 _ f ∙ c.coef_of_difference.ensures) c.loop-var.invariant
