use Rattle.std.proofs.Common.{◌≤◌, length}
use Rattle.loop_scan.proofs.part.push_order.Given as goal

abbrev pub invariant-loop-term : goal.invariant-loop-term
invariant-loop-term l = length l.initial.table.reads ≤ length l.table.reads
