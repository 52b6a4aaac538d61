use Rattle.std.proofs.Common.{length, IsTrue}
use Rattle.scan_forms.specs.Reads.{are_in}
use Rattle.loop_scan.proofs.head.bound_reads.Given as goal

abbrev pub invariant-loop-sides : goal.invariant-loop-sides
invariant-loop-sides l = IsTrue (are_in (length l.reads) l.named)

abbrev pub invariant-loop-sides-2 : goal.invariant-loop-sides-2
invariant-loop-sides-2 l = IsTrue (are_in (length l.reads) l.named)
