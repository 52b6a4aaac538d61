use Rattle.std.proofs.Common.{◌≡◌, map}
use Rattle.std.specs.List.{range_with_len}
use Rattle.nest_systems.specs.Spans as spec
use Rattle.nest_systems.proofs.span.high_numbers.Given as goal

abbrev pub invariant-loop-var : goal.invariant-loop-var
invariant-loop-var l = l.numbers ≡ map (spec.high_number l.span l.coefs l.count) (range_with_len 0 l.var)
