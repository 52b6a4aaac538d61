use Rattle.std.proofs.Common.{◌≡◌, take, map}
use Rattle.nest_core.specs.Order.{shares_loop}
use Rattle.affine_moves.proofs.moves.sharers.Given as goal

abbrev pub invariant-loop-other : goal.invariant-loop-other
invariant-loop-other l = l.applies ≡ map (shares_loop l.level l.nest) (take l.other-index l.nests)
