use Rattle.std.proofs.Common.{◌≡◌, drop, length}
use Rattle.std.specs.List.{list_any}
use Rattle.unroll.specs.Moves.{tangles}
use Rattle.unroll.proofs.shapes.any_tangles.Given as goal

abbrev pub invariant-loop-other : goal.invariant-loop-other
invariant-loop-other l = list_any (tangles (length l.head.params) l.level l.nest) (drop l.other-index l.nests) ≡ list_any (tangles (length l.head.params) l.level l.nest) l.nests
