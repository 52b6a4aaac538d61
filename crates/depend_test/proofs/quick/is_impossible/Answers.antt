use Rattle.std.proofs.Common.{subst}
use Rattle.int_rows.specs.Systems.{IsSystem}
use Rattle.depend_test.proofs.Pushing.{alone-decides}
use Rattle.depend_test.proofs.quick.is_impossible.Goals as goal

pub returns : goal.returns
returns c = alone-decides _ c.new-alone.result c.push.new.self _ _ c.new-alone.ensures (rw c.in_ok-copy_row.ensures at c.in_ok-push.ensures.answer) (subst IsSystem c.alone-2.view_is c.alone-2.invariant) c.excluded.ensures
