use Rattle.std.proofs.Common.{◌≡◌, length, take}
use Rattle.make_dense.specs.Dense.{stays}
use Rattle.make_dense.proofs.moves.stays.Given as goal

abbrev pub invariant-loop-nest : goal.invariant-loop-nest
invariant-loop-nest l = l.pieces ≡ stays (length l.head.params) (take l.nest-index l.nests)
