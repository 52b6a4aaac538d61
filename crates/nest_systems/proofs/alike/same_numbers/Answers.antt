use Rattle.std.proofs.Common.{sym}
use Rattle.nest_systems.specs.Choosing.{same_number}
use Rattle.nest_systems.proofs.Ranging.{range-more, range-false}
use Rattle.nest_systems.proofs.alike.same_numbers.Goals as goal

pub returns-then-not-same_number : goal.returns-then-not-same_number
returns-then-not-same_number c = sym (range-false (same_number c.args.a.now c.args.b.now) c.args.first c.loop-var.var c.loop-var-test.true (sym c.if-not-same_number.ensures))

pub loop-var-preserved : goal.loop-var-preserved
loop-var-preserved c = range-more (same_number c.args.a.now c.args.b.now) c.loop-var.var c.loop-var.invariant (sym c.if-not-same_number.ensures)
