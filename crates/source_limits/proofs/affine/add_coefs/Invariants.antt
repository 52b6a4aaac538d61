use Rattle.std.proofs.Common.{◌≡◌, length}
use Rattle.source_limits.proofs.affine.add_coefs.Given as goal

abbrev pub invariant-loop-i : goal.invariant-loop-i
invariant-loop-i l = length l.sum ≡ length l.initial.sum
