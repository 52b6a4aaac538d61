use Rattle.std.proofs.Common.{◌≡◌, drop, length}
use Rattle.std.specs.List.{list_any}
use Rattle.unroll.specs.Moves.{is_tangled}
use Rattle.unroll.proofs.shapes.any_tangled.Given as goal

abbrev pub invariant-loop-row : goal.invariant-loop-row
invariant-loop-row l = list_any (is_tangled (length l.head.params) l.level l.nest) (drop l.row-index l.nest.rows) ≡ list_any (is_tangled (length l.head.params) l.level l.nest) l.nest.rows
