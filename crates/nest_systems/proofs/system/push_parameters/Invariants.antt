use Rattle.std.proofs.Common.{◌≡◌, map}
use Rattle.std.specs.List.{range_with_len}
use Rattle.nest_systems.specs.Extending.{extended}
use Rattle.nest_systems.specs.Begun.{sign_row}
use Rattle.nest_systems.proofs.system.push_parameters.Given as goal

abbrev pub invariant-loop-var : goal.invariant-loop-var
invariant-loop-var l = record {
  vars : l.system.vars ≡ l.initial.system.vars;
  rows : l.system ≡ extended l.initial.system (map (sign_row l.vars) (range_with_len 0 l.var));
}
