use Rattle.std.proofs.Common.{length, IsTrue}
use Rattle.scan_forms.specs.Reads.{are_in}
use Rattle.loop_scan.proofs.part.make_order.Given as goal

abbrev pub invariant-loop-form : goal.invariant-loop-form
invariant-loop-form l = IsTrue (are_in (length l.reads) l.order)
