use Rattle.std.proofs.Common.{length, IsTrue}
use Rattle.scan_forms.specs.Reads.{are_in}
use Rattle.loop_scan.proofs.head.name_bounds.Given as goal

abbrev pub invariant-loop-bound : goal.invariant-loop-bound
invariant-loop-bound l = IsTrue (are_in (length l.reads) l.named)
