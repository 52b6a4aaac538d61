use Rattle.std.proofs.Common.{◌≤◌}
use Rattle.c_tree.specs.declared.index.Index.{size-Index}
use Rattle.c_tree.proofs.index.Index.+drop.Given as goal

abbrev pub decreases-drop : goal.decreases-drop
decreases-drop l = goal.size-drop l

-- what is left is no deeper than the whole
abbrev pub invariant-loop-self : goal.invariant-loop-self
invariant-loop-self l = size-Index l.self ≤ size-Index l.initial.self
