use Rattle.std.proofs.Common.{◌≡◌, length, false}
use Rattle.affine_moves.specs.Moves.{any_below}
use Rattle.unroll.specs.Bounds.{is_lost}
use Rattle.unroll.proofs.bounds.loses_any.Given as goal

abbrev pub invariant-loop-term : goal.invariant-loop-term
invariant-loop-term l = any_below (is_lost (length l.head.params) l.level l.nest l.lower) l.term ≡ false
