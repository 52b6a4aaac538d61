use Rattle.std.proofs.Common.{length, IsTrue}
use Rattle.scan_forms.specs.Reads.{are_in}
use Rattle.loop_scan.proofs.part.name_rows.Given as goal

abbrev pub invariant-loop-row : goal.invariant-loop-row
invariant-loop-row l = IsTrue (are_in (length l.reads) l.named)
