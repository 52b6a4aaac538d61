use Rattle.std.proofs.Common.{◌≡◌, ◌+◌, drop}
use Rattle.nest_systems.specs.Extending.{extended}
use Rattle.nest_systems.specs.Begun.{end_rows}
use Rattle.nest_systems.proofs.system.push_end_ranges.Given as goal

abbrev pub invariant-loop-i : goal.invariant-loop-i
invariant-loop-i l = record {
  vars : l.system.vars ≡ l.initial.system.vars;
  rows : extended l.system (end_rows l.head l.made l.vars (l.first_end + l.i) (drop l.i l.ends)) ≡ extended l.initial.system (end_rows l.head l.made l.vars l.first_end l.ends);
}
