use Rattle.std.proofs.Common.{sym, length}
use Rattle.nest_systems.specs.Choosing.{balances}
use Rattle.nest_systems.proofs.Ranging.{range-more, range-false}
use Rattle.nest_systems.proofs.alike.all_balance.Goals as goal

pub returns-then-not-balances : goal.returns-then-not-balances
returns-then-not-balances c = sym (range-false (balances c.args.first c.args.same.now c.args.a.now c.args.b.now) (length c.args.same.now) c.loop-one.one c.loop-one-test.true (sym c.if-not-balances.ensures))

pub loop-one-preserved : goal.loop-one-preserved
loop-one-preserved c = range-more (balances c.args.first c.args.same.now c.args.a.now c.args.b.now) c.loop-one.one c.loop-one.invariant (sym c.if-not-balances.ensures)
