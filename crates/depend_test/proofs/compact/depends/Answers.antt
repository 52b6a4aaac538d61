use Rattle.std.proofs.Common.{subst}
use Rattle.int_rows.specs.Systems.{IsSystem}
use Rattle.depend_test.proofs.Leveling.{decided-at}
use Rattle.depend_test.proofs.compact.depends.Goals as goal

pub returns : goal.returns
returns c =
    decided-at c.args.kernel.now c.args.side.now c.args.level c.args.first.now c.args.second.now c.in_ok-pair.pair c.in_ok-equal.equal c.as_slice-same.result.now c.in_ok-rows.rows c.as_slice-order.result.now c.as_slice-early.result.now c.as_slice-late.result.now
    c.in_ok-system.system c.in_ok-all.all c.in_ok-excluded.field-0 c.in_ok-pair.ensures.pair c.in_ok-equal.ensures.value c.as_slice-same.ensures c.in_ok-system.ensures.value c.as_slice-early.ensures c.as_slice-late.ensures c.in_ok-rows.ensures.value c.as_slice-order.ensures c.in_ok-all.ensures.value (subst IsSystem c.all.view_is c.all.invariant) c.in_ok-excluded.ensures
