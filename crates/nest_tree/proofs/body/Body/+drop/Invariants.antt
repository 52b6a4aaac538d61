use Rattle.std.proofs.Common.{◌≤◌}
use Rattle.nest_tree.specs.declared.body.Body.{size-Body}
use Rattle.nest_tree.proofs.body.Body.+drop.Given as goal

abbrev pub decreases-drop : goal.decreases-drop
decreases-drop l = goal.size-drop l

-- what is left is no deeper than the whole
abbrev pub invariant-loop-self : goal.invariant-loop-self
invariant-loop-self l = size-Body l.self ≤ size-Body l.initial.self
