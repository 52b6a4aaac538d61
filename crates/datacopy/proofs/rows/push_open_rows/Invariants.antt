use Rattle.datacopy.specs.Narrow.{AreRows}
use Rattle.datacopy.proofs.rows.push_open_rows.Given as goal

abbrev pub invariant-loop-place : goal.invariant-loop-place
invariant-loop-place l = AreRows l.narrow l.rows
