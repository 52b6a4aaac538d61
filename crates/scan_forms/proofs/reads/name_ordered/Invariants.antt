use Rattle.std.proofs.Common.{length, IsTrue}
use Rattle.scan_forms.specs.Reads.{are_in}
use Rattle.scan_forms.proofs.reads.name_ordered.Given as goal

abbrev pub invariant-loop-read : goal.invariant-loop-read
invariant-loop-read l = IsTrue (are_in (length l.reads) l.named)
