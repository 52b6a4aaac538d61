use Rattle.std.proofs.Common.{◌≡◌, drop, length}
use Rattle.std.specs.List.{list_all}
use Rattle.nest_limits.specs.Brackets.{row_fits}
use Rattle.nest_limits.proofs.nest.rows_fit.Given as goal

abbrev pub invariant-loop-row : goal.invariant-loop-row
invariant-loop-row l = list_all (row_fits (length l.head.params) l.nest l.room) (drop l.row-index l.nest.rows) ≡ list_all (row_fits (length l.head.params) l.nest l.room) l.nest.rows
