use Rattle.std.proofs.Common.{◌≤◌, length}
use Rattle.loop_scan.proofs.ask.ask_read.Given as goal

abbrev pub invariant-loop-claim : goal.invariant-loop-claim
invariant-loop-claim l = length l.initial.context ≤ length l.context
