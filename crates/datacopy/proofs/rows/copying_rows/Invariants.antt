use Rattle.datacopy.specs.Narrow.{AreRows}
use Rattle.datacopy.proofs.rows.copying_rows.Given as goal

abbrev pub invariant-loop-dim : goal.invariant-loop-dim
invariant-loop-dim l = AreRows l.narrow l.rows
