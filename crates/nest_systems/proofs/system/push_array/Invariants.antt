use Rattle.std.proofs.Common.{◌≡◌, drop}
use Rattle.std.specs.List.{flat_map}
use Rattle.nest_systems.specs.Extending.{extended}
use Rattle.nest_systems.specs.Begun.{array_rows, extent_rows}
use Rattle.nest_systems.proofs.system.push_array.Given as goal

abbrev pub invariant-loop-extent : goal.invariant-loop-extent
invariant-loop-extent l = record {
  vars : l.system.vars ≡ l.initial.system.vars;
  rows : extended l.system (flat_map (extent_rows l.head.params l.vars) (drop l.extent-index l.array.extents)) ≡ extended l.initial.system (array_rows l.head.params l.vars l.array);
}
