use Rattle.std.proofs.Common.{◌≡◌, ◌≤◌, length, take}
use Rattle.one_statement.proofs.put.truncate.Given as goal

abbrev pub invariant-loop-list : goal.invariant-loop-list
invariant-loop-list g l = (l.count ≤ length l.list) × (take l.count l.list ≡ take l.count l.fn.list)

abbrev pub decreases-loop-list : goal.decreases-loop-list
decreases-loop-list g l = length l.list
