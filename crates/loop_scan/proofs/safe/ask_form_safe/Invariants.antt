use Rattle.std.proofs.Common.{◌≤◌, length}
use Rattle.loop_scan.proofs.safe.ask_form_safe.Given as goal

abbrev pub invariant-loop-read : goal.invariant-loop-read
invariant-loop-read l = length l.initial.table.reads ≤ length l.table.reads
