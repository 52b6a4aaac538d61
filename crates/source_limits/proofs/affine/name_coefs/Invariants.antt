use Rattle.std.proofs.Common.{◌≡◌, ◌+◌, length}
use Rattle.source_limits.proofs.affine.name_coefs.Given as goal

abbrev pub invariant-loop-i : goal.invariant-loop-i
invariant-loop-i l = length l.coefs ≡ length l.vars.names.now + length l.vars.reads.now
