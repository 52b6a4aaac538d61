use Rattle.std.proofs.Common.{◌≡◌, true}
use Rattle.std.specs.List.{list_all, range_with_len}
use Rattle.nest_systems.specs.Choosing.{same_number}
use Rattle.nest_systems.proofs.alike.same_numbers.Given as goal

abbrev pub invariant-loop-var : goal.invariant-loop-var
invariant-loop-var l = list_all (same_number l.a l.b) (range_with_len 0 l.var) ≡ true
