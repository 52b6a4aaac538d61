use Rattle.std.proofs.Common.{length}
use Rattle.one_statement.proofs.Putting.{Appends}
use Rattle.one_statement.proofs.put.append_all.Given as goal

abbrev pub invariant-loop-list : goal.invariant-loop-list
invariant-loop-list g l = Appends l.fn.list l.fn.more l.before l.list l.rest

abbrev pub decreases-loop-list : goal.decreases-loop-list
decreases-loop-list g l = length l.rest
