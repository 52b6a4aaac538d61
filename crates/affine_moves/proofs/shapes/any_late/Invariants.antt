use Rattle.std.proofs.Common.{◌≡◌, drop, length}
use Rattle.std.specs.List.{list_any}
use Rattle.affine_moves.specs.Moves.{is_late}
use Rattle.affine_moves.proofs.shapes.any_late.Given as goal

abbrev pub invariant-loop-row : goal.invariant-loop-row
invariant-loop-row l = list_any (is_late (length l.head.params) l.change l.nest) (drop l.row-index l.nest.rows) ≡ list_any (is_late (length l.head.params) l.change l.nest) l.nest.rows
