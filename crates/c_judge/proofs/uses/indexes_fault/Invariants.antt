use Rattle.std.proofs.Common.{◌≡◌, length}
use Rattle.c_judge.specs.Uses.{indexes_fault}
use Rattle.c_judge.proofs.uses.indexes_fault.Given as goal

abbrev pub invariant-all : goal.invariant-all
invariant-all l = indexes_fault l.rule l.scope l.all ≡ indexes_fault l.rule l.scope l.initial.all

abbrev pub decreases-all : goal.decreases-all
decreases-all l = length l.all
