-- The walk down the left part, at each kind of right side.
use Rattle.std.proofs.Common.{rules, ap, ◌∙◌, Bor}
use Rattle.c_tree.specs.declared.index.Cell.{Cell}
use Rattle.c_tree.specs.declared.data.Expr.{the_lemmas}
use Rattle.source_limits.specs.Cells.{cells_of}
use Rattle.source_limits.proofs.Celled.{cells-Const, cells-At, cells-Plus, cells-Minus, cells-Times, gathers, gathered-none, gathered-cell}
use Rattle.source_limits.proofs.parts.+push_cells.Goals as goal

pub returns-in-Const : goal.returns-in-Const
returns-in-Const t c = gathered-none c.loop-rest.rest.now _ _ (ap cells_of c.in-Const.is ∙ cells-Const c.in-Const.field-0) c.loop-rest.invariant.gathers

pub returns-in-At : goal.returns-in-At
returns-in-At t c = gathered-cell (λ (r : Bor Cell). r.now) _ _ _ c.loop-rest.rest.now _ c.in_ok-push-in-At.ensures.items (ap cells_of c.in-At.is ∙ cells-At c.in-At.cell) c.loop-rest.invariant.gathers

pub loop-rest-preserved-in-Plus : goal.loop-rest-preserved-in-Plus
loop-rest-preserved-in-Plus t c = record {
  size = search (rules, the_lemmas);
  gathers = gathers c.loop-rest.rest.now c.in-Plus.left c.in-Plus.right c.get-rest.result.now c.get.result.now _ _ _ (ap cells_of c.in-Plus.is ∙ cells-Plus c.in-Plus.left c.in-Plus.right) c.get-rest.ensures c.get.ensures c.in_ok-push_cells-in-Plus.ensures c.loop-rest.invariant.gathers;
}

pub loop-rest-preserved-in-Minus : goal.loop-rest-preserved-in-Minus
loop-rest-preserved-in-Minus t c = record {
  size = search (rules, the_lemmas);
  gathers = gathers c.loop-rest.rest.now c.in-Minus.left c.in-Minus.right c.get-rest-in-Minus.result.now c.get-in-Minus.result.now _ _ _ (ap cells_of c.in-Minus.is ∙ cells-Minus c.in-Minus.left c.in-Minus.right) c.get-rest-in-Minus.ensures c.get-in-Minus.ensures c.in_ok-push_cells-in-Minus.ensures c.loop-rest.invariant.gathers;
}

pub loop-rest-preserved : goal.loop-rest-preserved
loop-rest-preserved t c = record {
  size = search (rules, the_lemmas);
  gathers = gathers c.loop-rest.rest.now c.in-Times.left c.in-Times.right c.get-rest-in-Times.result.now c.get-in-Times.result.now _ _ _ (ap cells_of c.in-Times.is ∙ cells-Times c.in-Times.left c.in-Times.right) c.get-rest-in-Times.ensures c.get-in-Times.ensures c.in_ok-push_cells-in-Times.ensures c.loop-rest.invariant.gathers;
}
