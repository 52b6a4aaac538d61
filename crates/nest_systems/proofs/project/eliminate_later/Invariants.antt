use Rattle.std.proofs.Common.{◌≡◌, ◌≤◌}
use Rattle.nest_systems.proofs.project.eliminate_later.Given as goal

abbrev pub invariant-loop-left : goal.invariant-loop-left
invariant-loop-left l = record { vars : l.system.vars ≡ l.initial.system.vars; within : l.left ≤ l.system.vars }

abbrev pub decreases-loop-left : goal.decreases-loop-left
decreases-loop-left l = l.left
