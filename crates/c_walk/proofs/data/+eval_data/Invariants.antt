use Rattle.std.proofs.Common.{◌≡◌, ◌≤◌, true}
use Rattle.c_tree.specs.declared.data.Expr.{size-Expr}
use Rattle.c_walk.specs.State.{state_of}
use Rattle.c_walk.specs.Ready.{data_fits}
use Rattle.c_walk.specs.Data.{worth_of, on_numbers, applied}
use Rattle.c_walk.proofs.data.+eval_data.Given as goal

abbrev pub decreases-eval_data : goal.decreases-eval_data
decreases-eval_data g l = size-Expr l.e.now

abbrev pub invariant-loop-rest : goal.invariant-loop-rest
invariant-loop-rest g l = record {
  size : size-Expr l.rest ≤ size-Expr l.e;
  fit : data_fits l.rest (g.M.View.scope l.memory) ≡ true;
  gathers : worth_of l.e (state_of (g.M.View.scope l.memory) (g.M.View.sight l.memory) (g.M.Memory.rest l.memory)) ≡ on_numbers applied (worth_of l.rest (state_of (g.M.View.scope l.memory) (g.M.View.sight l.memory) (g.M.Memory.rest l.memory))) l.tail;
}
