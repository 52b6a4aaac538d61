use Rattle.std.proofs.Common.{◌≡◌, drop, length}
use Rattle.std.specs.List.{list_any}
use Rattle.affine_moves.specs.Moves.{comes_late}
use Rattle.affine_moves.proofs.shapes.any_comes_late.Given as goal

abbrev pub invariant-loop-other : goal.invariant-loop-other
invariant-loop-other l = list_any (comes_late (length l.head.params) l.level l.change l.nest) (drop l.other-index l.nests) ≡ list_any (comes_late (length l.head.params) l.level l.change l.nest) l.nests
