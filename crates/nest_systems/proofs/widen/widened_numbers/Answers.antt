use Rattle.nest_systems.proofs.Mapping.{range-push}
use Rattle.std.proofs.Common.{rules, ◌∙◌}
use Rattle.std.proofs.lemmas.Int.{to_z-of_z}
use mir.Val.{SFits}
use mir.Syntax.{w128}
use Rattle.nest_systems.proofs.widen.widened_numbers.Goals as goal

pub loop-var-preserved : goal.loop-var-preserved
loop-var-preserved c =
    let f : SFits w128 c.number_at.result = search rules in
    range-push _ _ _ _ _ c.in_ok-push.ensures.ok (to_z-of_z w128 _ f ∙ c.number_at.ensures) c.loop-var.invariant
