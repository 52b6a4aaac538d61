use Rattle.std.proofs.Common.{◌≡◌, drop}
use Rattle.std.specs.List.{list_any}
use Rattle.affine_moves.specs.Moves.{splits}
use Rattle.affine_moves.proofs.shapes.any_splits.Given as goal

abbrev pub invariant-loop-other : goal.invariant-loop-other
invariant-loop-other l = list_any (splits l.a l.b l.nest) (drop l.other-index l.nests) ≡ list_any (splits l.a l.b l.nest) l.nests
