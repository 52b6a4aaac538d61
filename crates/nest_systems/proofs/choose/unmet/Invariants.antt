use Rattle.std.proofs.Common.{◌≡◌, replicate}
use Rattle.std.specs.Prelude.{None}
use Rattle.nest_systems.proofs.choose.unmet.Given as goal

abbrev pub invariant-loop : goal.invariant-loop
invariant-loop l = l.same ≡ replicate l.counter None
