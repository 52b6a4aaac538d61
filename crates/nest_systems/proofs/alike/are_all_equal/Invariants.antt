use Rattle.std.proofs.Common.{◌≡◌, drop}
use Rattle.nest_systems.specs.Choosing.{are_all_equal}
use Rattle.nest_systems.proofs.alike.are_all_equal.Given as goal

abbrev pub invariant-loop-place : goal.invariant-loop-place
invariant-loop-place l = are_all_equal l.first l.same (drop l.place l.x) (drop l.place l.y) ≡ are_all_equal l.first l.same l.x l.y
