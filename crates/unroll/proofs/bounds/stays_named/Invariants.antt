use Rattle.std.proofs.Common.{◌≡◌, drop, length}
use Rattle.std.specs.List.{list_any}
use Rattle.unroll.specs.Bounds.{stays_in}
use Rattle.unroll.proofs.bounds.stays_named.Given as goal

abbrev pub invariant-loop-row : goal.invariant-loop-row
invariant-loop-row l = list_any (stays_in (length l.head.params) l.level l.nest l.lower l.term) (drop l.row-index l.nest.rows) ≡ list_any (stays_in (length l.head.params) l.level l.nest l.lower l.term) l.nest.rows
