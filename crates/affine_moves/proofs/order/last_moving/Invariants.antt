use Rattle.std.proofs.Common.{◌≡◌, drop}
use Rattle.affine_moves.specs.Moves.{last_moving}
use Rattle.affine_moves.proofs.order.last_moving.Given as goal

abbrev pub invariant-loop-t : goal.invariant-loop-t
invariant-loop-t l = last_moving l.t l.found (drop l.t l.order) ≡ last_moving 0 0 l.order
