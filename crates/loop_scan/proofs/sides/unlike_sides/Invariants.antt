use Rattle.std.proofs.Common.{◌≡◌, length}
use Rattle.loop_scan.proofs.sides.unlike_sides.Given as goal

abbrev pub invariant-loop-i : goal.invariant-loop-i
invariant-loop-i l = length l.all ≡ l.i
