use Rattle.std.proofs.Common.{◌≡◌, drop, length}
use Rattle.datacopy.specs.Narrow.{is_in_rows}
use Rattle.datacopy.proofs.narrow.is_in_rows.Given as goal

abbrev pub invariant-loop-row : goal.invariant-loop-row
invariant-loop-row l = is_in_rows (length l.head.params) l.nest l.place l.term (drop l.row-index l.nest.rows) ≡ is_in_rows (length l.head.params) l.nest l.place l.term l.nest.rows
