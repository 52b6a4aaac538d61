use Rattle.std.proofs.Common.{◌≡◌, map}
use Rattle.std.specs.List.{range_with_len}
use Rattle.depend_test.specs.Orders.{from_one}
use Rattle.depend_test.proofs.order.levels_to.Given as goal

abbrev pub invariant-loop-level : goal.invariant-loop-level
invariant-loop-level l = l.levels ≡ map from_one (range_with_len 0 l.level)
