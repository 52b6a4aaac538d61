use Rattle.std.proofs.Common.{◌≡◌, true}
use Rattle.std.specs.List.{list_all, range_with_len}
use Rattle.nest_systems.specs.Choosing.{balances}
use Rattle.nest_systems.proofs.alike.all_balance.Given as goal

abbrev pub invariant-loop-one : goal.invariant-loop-one
invariant-loop-one l = list_all (balances l.first l.same l.a l.b) (range_with_len 0 l.one) ≡ true
