use Rattle.std.proofs.Common.{◌≤◌, length}
use Rattle.loop_scan.proofs.ask.place_rows.Given as goal

abbrev pub invariant-loop-row : goal.invariant-loop-row
invariant-loop-row l = length l.initial.table.reads ≤ length l.table.reads
