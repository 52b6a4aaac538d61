use Rattle.std.proofs.Common.{◌≡◌, drop}
use Rattle.affine_moves.specs.Moves.{first_moving}
use Rattle.affine_moves.proofs.order.first_moving.Given as goal

abbrev pub invariant-loop-t : goal.invariant-loop-t
invariant-loop-t l = first_moving l.t (drop l.t l.order) ≡ first_moving 0 l.order
