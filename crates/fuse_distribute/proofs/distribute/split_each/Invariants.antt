use Rattle.std.proofs.Common.{◌≡◌, ◌++◌, drop}
use Rattle.fuse_distribute.specs.Distributing.{split_each}
use Rattle.fuse_distribute.proofs.distribute.split_each.Given as goal

abbrev pub invariant-loop-i : goal.invariant-loop-i
invariant-loop-i l = l.all ++ split_each l.level l.statement l.nest l.i (drop l.i l.nests) ≡ split_each l.level l.statement l.nest 0 l.nests
