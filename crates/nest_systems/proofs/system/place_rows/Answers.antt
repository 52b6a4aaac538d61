use Rattle.std.proofs.Common.{◌∷◌, [], ap, ◌∙◌}
use Rattle.int_rows.specs.declared.row.Aff.{Aff}
use Rattle.nest_systems.specs.Extending.{extended}
use Rattle.nest_systems.specs.Placing.{placed_row}
use Rattle.nest_systems.proofs.Extending.{pushed-behind, map-step}
use Rattle.nest_systems.proofs.system.place_rows.Goals as goal

pub loop-row-preserved : goal.loop-row-preserved
loop-row-preserved c =
    let p = pushed-behind c.loop-row.system c.push.new.self _ c.in_ok-push.ensures.answer in
    let e = p ∙ ap (λ (f : Aff). extended c.loop-row.system (record { equal = c.row-item.result.equal; form = f } ∷ [])) c.in_ok-form.ensures.value in
    record {
      vars = c.push.ensures.vars ∙ c.loop-row.invariant.vars;
      rows = map-step (placed_row c.args.seats.now) c.loop-row.system c.push.new.self _ c.args.rows.now c.loop-row.row-index c.row-item.result c.loop-row-test.true c.row-item.is e c.loop-row.invariant.rows;
    }
