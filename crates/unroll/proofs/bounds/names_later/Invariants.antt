use Rattle.std.proofs.Common.{◌≡◌, length, false}
use Rattle.affine_moves.specs.Moves.{any_below}
use Rattle.unroll.specs.Bounds.{names_later_one}
use Rattle.unroll.proofs.bounds.names_later.Given as goal

abbrev pub invariant-loop-place : goal.invariant-loop-place
invariant-loop-place l = any_below (names_later_one (length l.head.params) l.level l.nest l.form) l.place ≡ false
