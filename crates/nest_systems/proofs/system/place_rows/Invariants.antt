use Rattle.std.proofs.Common.{◌≡◌, map, drop}
use Rattle.nest_systems.specs.Extending.{extended}
use Rattle.nest_systems.specs.Placing.{placed_row}
use Rattle.nest_systems.proofs.system.place_rows.Given as goal

abbrev pub invariant-loop-row : goal.invariant-loop-row
invariant-loop-row l = record {
  vars : l.system.vars ≡ l.initial.system.vars;
  rows : extended l.system (map (placed_row l.seats) (drop l.row-index l.rows)) ≡ extended l.initial.system (map (placed_row l.seats) l.rows);
}
