use Rattle.std.proofs.Common.{drop}
use Rattle.depend_test.specs.Candidates.{carried_each}
use Rattle.depend_test.specs.Systems.{DecidesOrders}
use Rattle.depend_test.specs.declared.first.Carried.{Carried}
use Rattle.depend_test.proofs.Firsts.{Passed}
use Rattle.depend_test.proofs.first.first_carried.Given as goal

abbrev pub invariant-loop-old : goal.invariant-loop-old
invariant-loop-old l = Passed (DecidesOrders l.system l.pair l.orders) (λ (c : Carried). c) (carried_each l.orders.old l.orders.new) (carried_each (drop l.old-index l.orders.old) l.orders.new)
