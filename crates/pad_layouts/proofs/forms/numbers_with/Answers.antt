use Rattle.std.proofs.Common.{rules, ◌∙◌}
use Rattle.std.proofs.lemmas.Int.{to_z-of_z}
use mir.Val.{SFits}
use mir.Syntax.{w128}
use Rattle.pad_layouts.proofs.Mapping.{range-push}
use Rattle.pad_layouts.proofs.forms.numbers_with.Goals as goal

pub loop-var-preserved : goal.loop-var-preserved
loop-var-preserved c =
    let a : SFits w128 c.args.a = search rules in
    let b : SFits w128 c.args.b = search rules in
    let f : SFits w128 c.number_with.result = search rules in
    let i = simp to_z-of_z at c.loop-var.invariant in
    let e = simp to_z-of_z at c.number_with.ensures in
    simp to_z-of_z (range-push _ _ _ _ _ c.in_ok-push.ensures.ok (to_z-of_z w128 _ f ∙ e) i)
