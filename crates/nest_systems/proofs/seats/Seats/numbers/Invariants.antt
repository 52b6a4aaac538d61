use Rattle.std.proofs.Common.{◌≡◌, map}
use Rattle.std.specs.List.{range_with_len}
use Rattle.nest_systems.specs.Placing.{seated_number}
use Rattle.nest_systems.proofs.seats.Seats.numbers.Given as goal

abbrev pub invariant-loop-var : goal.invariant-loop-var
invariant-loop-var l = l.numbers ≡ map (seated_number l.self l.coefs) (range_with_len 0 l.var)
