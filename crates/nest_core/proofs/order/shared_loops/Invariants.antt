use Rattle.std.proofs.Common.{◌≡◌, ◌+◌, drop}
use Rattle.nest_tree.specs.Carriers.{shared}
use Rattle.nest_core.proofs.order.shared_loops.Given as goal

abbrev pub invariant-loop-common : goal.invariant-loop-common
invariant-loop-common l = l.common + shared (drop l.common l.first) (drop l.common l.second) ≡ shared l.first l.second
