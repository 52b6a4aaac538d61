use Rattle.std.proofs.Common.{◌≡◌, length}
use Rattle.source_check.proofs.inside.mark_read.Given as goal

abbrev pub invariant-loop-i : goal.invariant-loop-i
invariant-loop-i l = length l.named ≡ length l.initial.named
