use Rattle.std.proofs.Common.{◌≡◌, take}
use Rattle.nest_systems.specs.Extending.{extended}
use Rattle.depend_test.proofs.pair.with_rows.Given as goal

abbrev pub invariant-loop-row : goal.invariant-loop-row
invariant-loop-row l = l.new ≡ extended l.system (take l.row-index l.rows)
