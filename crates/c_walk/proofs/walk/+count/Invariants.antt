use Rattle.std.proofs.Common.{◌≡◌, ◌+◌, drop, map}
use Rattle.c_meaning.specs.Run.{part, widths}
use Rattle.c_walk.proofs.walk.+count.Given as goal

abbrev pub invariant-positions_behind-loop-statement : goal.invariant-positions_behind-loop-statement
invariant-positions_behind-loop-statement l = l.position + widths (map part (drop l.statement-index l.statement-items)) ≡ l.before + widths (map part l.list)
