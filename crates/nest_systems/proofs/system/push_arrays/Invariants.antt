use Rattle.std.proofs.Common.{◌≡◌, drop}
use Rattle.std.specs.List.{flat_map}
use Rattle.nest_systems.specs.Extending.{extended}
use Rattle.nest_systems.specs.Begun.{array_rows}
use Rattle.nest_systems.proofs.system.push_arrays.Given as goal

abbrev pub invariant-loop-array : goal.invariant-loop-array
invariant-loop-array l = record {
  vars : l.system.vars ≡ l.initial.system.vars;
  rows : extended l.system (flat_map (array_rows l.head.params l.vars) (drop l.array-index l.head.arrays)) ≡ extended l.initial.system (flat_map (array_rows l.head.params l.vars) l.head.arrays);
}
