use Rattle.std.proofs.Common.{length}
use Rattle.nest_systems.specs.Choosing.{meet_term}
use Rattle.nest_systems.proofs.Meeting.{rows-step}
use Rattle.nest_systems.proofs.choose.meet_rows.Goals as goal

pub loop-row-preserved : goal.loop-row-preserved
loop-row-preserved c = record {
  kept = rw c.loop-row.invariant.kept.place at c.meet_form.ensures.kept;
  value = rows-step (meet_term c.args.terms.now (length c.args.terms.now)) (length c.args.terms.now) c.args.rows.now c.loop-row.row-index c.row-item.result c.loop-row.chosen c.meet_form.new.chosen c.args.chosen.now
      c.loop-row-test.true c.row-item.is c.loop-row.invariant.value c.in_ok-meet_form.ensures.value;
}
