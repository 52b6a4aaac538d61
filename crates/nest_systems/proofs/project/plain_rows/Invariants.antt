use Rattle.std.proofs.Common.{◌≡◌, map, take}
use Rattle.nest_systems.specs.Statements.{plain_row}
use Rattle.nest_systems.proofs.project.plain_rows.Given as goal

abbrev pub invariant-loop-row : goal.invariant-loop-row
invariant-loop-row l = l.copies ≡ map plain_row (take l.row-index l.rows)
