use Rattle.std.proofs.Common.{◌≡◌, map}
use Rattle.std.specs.List.{range_with_len}
use Rattle.depend_test.specs.Orders as spec
use Rattle.depend_test.proofs.order.differences.Given as goal

abbrev pub invariant-loop-var : goal.invariant-loop-var
invariant-loop-var l = l.coefs ≡ map (spec.difference_at l.a l.b) (range_with_len 0 l.var)
