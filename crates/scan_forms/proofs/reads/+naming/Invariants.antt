use Rattle.std.proofs.Common.{◌+◌, ◌*◌, length, IsTrue}
use Rattle.scan_forms.specs.Reads.{are_in}
use Rattle.scan_forms.proofs.reads.+naming.Given as goal

abbrev pub decreases-name_reads : goal.decreases-name_reads
decreases-name_reads l = 2 * l.below

abbrev pub decreases-name_read : goal.decreases-name_read
decreases-name_read l = 2 * l.read + 1

abbrev pub invariant-name_reads-loop-read : goal.invariant-name_reads-loop-read
invariant-name_reads-loop-read l = IsTrue (are_in (length l.reads) l.named)

abbrev pub invariant-name_read-loop-form : goal.invariant-name_read-loop-form
invariant-name_read-loop-form l = IsTrue (are_in (length l.reads) l.named)
