use Rattle.std.proofs.Common.{◌≡◌, ◌≤◌}
use Rattle.c_tree.specs.declared.data.Expr.{size-Expr}
use Rattle.c_trace.specs.LeftSide.{down}
use Rattle.c_trace.proofs.left_side.down.Given as goal

abbrev pub invariant-loop-step : goal.invariant-loop-step
invariant-loop-step l = record {
  rest : l.rest ≡ down l.e l._step;
  size : size-Expr l.rest ≤ size-Expr l.e;
}
