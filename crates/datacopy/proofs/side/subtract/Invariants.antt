use Rattle.std.proofs.Common.{◌≡◌, length}
use Rattle.datacopy.proofs.side.subtract.Given as goal

abbrev pub invariant-loop-i : goal.invariant-loop-i
invariant-loop-i l = length l.coefs ≡ l.i
