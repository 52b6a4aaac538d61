use Rattle.std.proofs.Common.{◌≡◌, drop}
use Rattle.std.specs.List.{list_any}
use Rattle.affine_moves.specs.Moves.{is_full}
use Rattle.affine_moves.proofs.shapes.any_full.Given as goal

abbrev pub invariant-loop-other : goal.invariant-loop-other
invariant-loop-other l = list_any (is_full l.level l.nest) (drop l.other-index l.nests) ≡ list_any (is_full l.level l.nest) l.nests
