use Rattle.std.proofs.Common.{◌∷◌, [], ap, ◌∙◌}
use Rattle.int_rows.specs.declared.row.Aff.{Aff}
use Rattle.nest_systems.specs.Extending.{extended}
use Rattle.nest_systems.specs.Begun.{sign_row, at_least_zero}
use Rattle.nest_systems.proofs.Extending.{range-step}
use Rattle.nest_systems.proofs.system.push_parameters.Goals as goal

pub loop-var-preserved : goal.loop-var-preserved
loop-var-preserved c =
    let e = c.in_ok-push_form.ensures.rows ∙ ap (λ (f : Aff). extended c.loop-var.system (at_least_zero f ∷ [])) c.in_ok-unit_form.ensures.value in
    record {
      vars = c.push_form.ensures.vars ∙ c.loop-var.invariant.vars;
      rows = range-step (sign_row c.args.vars) c.args.system.now c.loop-var.system c.push_form.new.system c.loop-var.var e c.loop-var.invariant.rows;
    }
