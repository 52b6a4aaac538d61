use Rattle.std.proofs.Common.{◌≡◌, drop}
use Rattle.nest_core.specs.Order.{is_earlier}
use Rattle.depend_test.proofs.order.is_earlier.Given as goal

abbrev pub invariant-loop-i : goal.invariant-loop-i
invariant-loop-i l = is_earlier (drop l.i l.first) (drop l.i l.second) ≡ is_earlier l.first l.second
