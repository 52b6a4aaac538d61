use Rattle.std.proofs.Common.{◌≤◌}
use Rattle.c_tree.specs.declared.data.Expr.{size-Expr}
use Rattle.c_tree.proofs.data.Expr.+drop.Given as goal

abbrev pub decreases-drop : goal.decreases-drop
decreases-drop l = goal.size-drop l

-- what is left is no deeper than the whole
abbrev pub invariant-loop-self : goal.invariant-loop-self
invariant-loop-self l = size-Expr l.self ≤ size-Expr l.initial.self
