use Rattle.std.proofs.Common.{◌≡◌, drop}
use Rattle.std.specs.List.{list_any}
use Rattle.unroll.specs.Moves.{parts}
use Rattle.unroll.proofs.shapes.any_parts.Given as goal

abbrev pub invariant-loop-other : goal.invariant-loop-other
invariant-loop-other l = list_any (parts l.level l.nest) (drop l.other-index l.nests) ≡ list_any (parts l.level l.nest) l.nests
