use Rattle.std.proofs.Common.{◌≡◌, drop}
use Rattle.affine_moves.specs.Moves.{holds_from}
use Rattle.affine_moves.proofs.order.is_permutation.Given as goal

abbrev pub invariant-loop-t : goal.invariant-loop-t
invariant-loop-t l = holds_from l.order l.t (drop l.t l.order) ≡ holds_from l.order 0 l.order
