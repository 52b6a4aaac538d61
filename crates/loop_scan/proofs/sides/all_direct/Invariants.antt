use Rattle.std.proofs.Common.{◌≡◌, ◌+◌, length}
use Rattle.loop_scan.proofs.sides.all_direct.Given as goal

abbrev pub invariant-loop-statement : goal.invariant-loop-statement
invariant-loop-statement l = length l.all + l.group.from ≡ l.statement
