use Rattle.depend_test.proofs.Pushing.{extended-more}
use Rattle.depend_test.proofs.pair.with_rows.Goals as goal

pub loop-row-preserved : goal.loop-row-preserved
loop-row-preserved c =
    let e = rw c.in_ok-copy_row.ensures at c.in_ok-push.ensures.answer in
    extended-more c.args.system.now c.loop-row.new c.push.new.self c.args.rows.now c.loop-row.row-index c.row-item.result c.loop-row-test.true c.row-item.is e c.loop-row.invariant
