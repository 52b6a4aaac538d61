use Rattle.std.proofs.Common.{◌≡◌, map, take}
use Rattle.nest_systems.specs.Ranges as spec
use Rattle.nest_systems.proofs.range.coefs_of.Given as goal

abbrev pub invariant-loop-name : goal.invariant-loop-name
invariant-loop-name l = l.coefs ≡ map (spec.coef_of l.first l.first_times l.second l.second_times) (take l.name-index l.params)
