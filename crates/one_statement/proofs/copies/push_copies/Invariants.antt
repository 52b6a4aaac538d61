use Rattle.std.proofs.Common.{◌≡◌, ◌++◌, take}
use Rattle.one_statement.proofs.copies.push_copies.Given as goal

abbrev pub invariant-loop-nest : goal.invariant-loop-nest
invariant-loop-nest l = l.nests.items ≡ l.initial.nests.items ++ take l.nest-index l.more
