use Rattle.datacopy.specs.Narrow.{AreRows}
use Rattle.datacopy.proofs.rows.outer_rows.Given as goal

abbrev pub invariant-loop-row : goal.invariant-loop-row
invariant-loop-row l = AreRows l.narrow l.rows
