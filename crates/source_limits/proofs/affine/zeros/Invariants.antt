use Rattle.std.proofs.Common.{◌≡◌, length}
use Rattle.source_limits.proofs.affine.zeros.Given as goal

abbrev pub invariant-loop : goal.invariant-loop
invariant-loop l = length l.zeros ≡ l.counter
