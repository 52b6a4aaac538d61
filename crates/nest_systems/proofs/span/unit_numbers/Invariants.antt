use Rattle.std.proofs.Common.{◌≡◌, map}
use Rattle.std.specs.List.{range_with_len}
use Rattle.nest_systems.specs.Spans as spec
use Rattle.nest_systems.proofs.span.unit_numbers.Given as goal

abbrev pub invariant-loop-other : goal.invariant-loop-other
invariant-loop-other l = l.numbers ≡ map (spec.unit_at l.var) (range_with_len 0 l.other)
