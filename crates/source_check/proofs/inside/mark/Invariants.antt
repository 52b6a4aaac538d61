use Rattle.std.proofs.Common.{◌≡◌, length}
use Rattle.source_check.proofs.inside.mark.Given as goal

abbrev pub invariant-loop-mention : goal.invariant-loop-mention
invariant-loop-mention l = length l.named ≡ length l.sight.reads.now
