use Rattle.std.proofs.Common.{◌≡◌, [], length}
use Rattle.nest_core.specs.Order.{placed_each}
use Rattle.nest_core.proofs.order.in_text_order.Given as goal

abbrev pub invariant-loop-nest : goal.invariant-loop-nest
invariant-loop-nest l = placed_each l.rest l.ordered.items ≡ placed_each l.fn.nests []

abbrev pub decreases-loop-nest : goal.decreases-loop-nest
decreases-loop-nest l = length l.rest
