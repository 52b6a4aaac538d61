use Rattle.std.proofs.Common.{◌≡◌, length}
use Rattle.std.proofs.Common.{false}
use Rattle.affine_moves.specs.Moves.{any_below, waits_for}
use Rattle.affine_moves.proofs.shapes.is_late.Given as goal

abbrev pub invariant-loop-level : goal.invariant-loop-level
invariant-loop-level l = any_below (waits_for (length l.head.params) l.change l.nest l.row) l.level ≡ false
