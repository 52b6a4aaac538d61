use Rattle.std.proofs.Common.{◌≡◌, ◌≤◌, ◌-◌}
use Rattle.c_tree.specs.declared.data.Expr.{size-Expr}
use Rattle.c_trace.specs.LeftSide.{left_part, down, opened_down}
use Rattle.c_trace.proofs.left_side.walk.Given as goal

abbrev pub invariant-loop-steps : goal.invariant-loop-steps
invariant-loop-steps l = record {
  most : l.steps ≤ 1048576;
  few : l.opened_so_far ≤ l.steps;
  rest : l.rest ≡ down l.e l.steps;
  opened : l.opened_so_far ≡ opened_down l.e l.steps;
  size : size-Expr l.rest ≤ size-Expr (left_part l.e);
}

abbrev pub decreases-loop-steps : goal.decreases-loop-steps
decreases-loop-steps l = 1048576 - l.steps
