use Rattle.std.proofs.Common.{◌≡◌, map}
use Rattle.std.specs.List.{range_with_len}
use Rattle.nest_systems.specs.Sums as spec
use Rattle.nest_systems.proofs.widen.widened_numbers.Given as goal

abbrev pub invariant-loop-var : goal.invariant-loop-var
invariant-loop-var l = l.wide ≡ map (spec.number_at l.numbers) (range_with_len 0 l.var)
