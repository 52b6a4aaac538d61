use Rattle.std.proofs.Common.{◌≡◌, take}
use Rattle.tree_copies.proofs.index.copy_indexes.Given as goal

abbrev pub invariant-loop-e : goal.invariant-loop-e
invariant-loop-e l = l.copies ≡ take l.e-index l.es
