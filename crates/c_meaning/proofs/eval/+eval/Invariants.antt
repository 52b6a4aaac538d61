use Rattle.std.proofs.Common.{◌≡◌, ◌≤◌, ◌+◌, ◌*◌, true}
use Rattle.c_tree.specs.declared.index.Index.{size-Index}
use Rattle.c_tree.specs.declared.index.Subscripts.{size-Subscripts}
use Rattle.c_tree.specs.declared.index.Cell.{size-Cell}
use Rattle.c_meaning.specs.Scope.{fits}
use Rattle.c_meaning.proofs.Gathers.{Gathers}
use Rattle.c_meaning.proofs.eval.+eval.Given as goal

abbrev pub decreases-weigh : goal.decreases-weigh
decreases-weigh g l = 2 * size-Index l.e.now

abbrev pub invariant-weigh-loop-rest : goal.invariant-weigh-loop-rest
invariant-weigh-loop-rest g l = record {
  size : size-Index l.rest ≤ size-Index l.e;
  fit : fits l.rest (g.V.View.scope l.view) ≡ true;
  gathers : Gathers l.e l.rest l.right (g.V.View.sight l.view);
}

abbrev pub decreases-weigh_cell : goal.decreases-weigh_cell
decreases-weigh_cell g l = 2 * size-Cell l.cell.now

abbrev pub decreases-eval_subscripts : goal.decreases-eval_subscripts
decreases-eval_subscripts g l = 2 * size-Subscripts l.at.now

abbrev pub decreases-eval_index : goal.decreases-eval_index
decreases-eval_index g l = 2 * size-Index l.e.now + 1
