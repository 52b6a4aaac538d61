use Rattle.std.proofs.Common.{◌≡◌, ◌++◌, drop, take}
use Rattle.nest_core.specs.Order.{placed}
use Rattle.nest_core.proofs.order.place_in.Given as goal

abbrev pub invariant-loop-i : goal.invariant-loop-i
invariant-loop-i l = take l.i l.ordered ++ placed l.nest (drop l.i l.ordered) ≡ placed l.nest l.ordered
