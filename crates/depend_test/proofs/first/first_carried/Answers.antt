use Rattle.depend_test.proofs.Carrying.{carriers-found, carriers-over, carriers-none}
use Rattle.depend_test.proofs.first.first_carried.Goals as goal

pub returns-in-Some : goal.returns-in-Some
returns-in-Some c =
    carriers-found c.args.system.now c.args.pair.now c.args.orders.now c.as_slice-old-items.result.now c.as_slice.result.now c.in_ok-before.before c.loop-old.old-index
    c.as_slice-old-items.ensures c.as_slice.ensures c.in_ok-before.ensures.value c.loop-old-test.true c.loop-old.invariant c.in-Some.new c.in_ok-found.found c.in-Some.is c.in_ok-found.ensures

pub loop-old-preserved : goal.loop-old-preserved
loop-old-preserved c =
    carriers-over c.args.system.now c.args.pair.now c.args.orders.now c.as_slice-old-items.result.now c.as_slice.result.now c.in_ok-before.before c.loop-old.old-index
    c.as_slice-old-items.ensures c.as_slice.ensures c.in_ok-before.ensures.value c.loop-old-test.true c.loop-old.invariant c.in_ok-found.found c.in_default.is c.in_ok-found.ensures

pub returns : goal.returns
returns c = carriers-none c.args.system.now c.args.pair.now c.args.orders.now c.as_slice-old-items.result.now c.loop-old.old-index c.as_slice-old-items.ensures c.loop-old-test.false c.loop-old.invariant
