-- The walk down the left part, at each kind of expression.
use Rattle.std.proofs.Common.{rules, sym, ap, ◌∙◌, refl, arith}
use Rattle.c_tree.specs.declared.data.Expr.{the_lemmas}
use Rattle.c_judge.specs.Uses.{expr_fault}
use Rattle.c_judge.proofs.UsesAt.{of_const, of_at, of_plus, of_minus, of_times, begins, two_parts, ends}
use Rattle.c_judge.proofs.uses.+expr_fault.Goals as goal

pub loop-rest-init : goal.loop-rest-init
loop-rest-init t c = record { size = omega arith; gathers = begins (expr_fault c.args.rule c.args.scope.now) c.args.e.now }

pub returns-in-Const : goal.returns-in-Const
returns-in-Const t c =
    let F = expr_fault c.args.rule c.args.scope.now in
    ends F (F c.args.e.now) c.loop-rest.rest.now _ c.loop-rest.found c.loop-rest.found (ap F c.in-Const.is ∙ of_const c.args.rule c.args.scope.now c.in-Const.field-0) c.loop-rest.invariant.gathers refl

pub returns-in-At : goal.returns-in-At
returns-in-At t c =
    let F = expr_fault c.args.rule c.args.scope.now in
    ends F (F c.args.e.now) c.loop-rest.rest.now c.data_cell_fault.result c.loop-rest.found c.or.result (ap F c.in-At.is ∙ of_at c.args.rule c.args.scope.now c.in-At.cell ∙ sym c.data_cell_fault.ensures) c.loop-rest.invariant.gathers c.or.ensures

pub loop-rest-preserved-in-Plus : goal.loop-rest-preserved-in-Plus
loop-rest-preserved-in-Plus t c =
    let F = expr_fault c.args.rule c.args.scope.now in
    record {
      size = search (rules, the_lemmas);
      gathers = two_parts F (F c.args.e.now) c.loop-rest.rest.now c.in-Plus.left c.in-Plus.right c.get-rest.result.now c.get.result.now c.loop-rest.found c.expr_fault.result c.or-found.result
          (ap F c.in-Plus.is ∙ of_plus c.args.rule c.args.scope.now c.in-Plus.left c.in-Plus.right) c.loop-rest.invariant.gathers c.get-rest.ensures c.get.ensures c.expr_fault.ensures c.or-found.ensures;
    }

pub loop-rest-preserved-in-Minus : goal.loop-rest-preserved-in-Minus
loop-rest-preserved-in-Minus t c =
    let F = expr_fault c.args.rule c.args.scope.now in
    record {
      size = search (rules, the_lemmas);
      gathers = two_parts F (F c.args.e.now) c.loop-rest.rest.now c.in-Minus.left c.in-Minus.right c.get-rest-in-Minus.result.now c.get-in-Minus.result.now c.loop-rest.found c.expr_fault-in-Minus.result c.or-found-in-Minus.result
          (ap F c.in-Minus.is ∙ of_minus c.args.rule c.args.scope.now c.in-Minus.left c.in-Minus.right) c.loop-rest.invariant.gathers c.get-rest-in-Minus.ensures c.get-in-Minus.ensures c.expr_fault-in-Minus.ensures c.or-found-in-Minus.ensures;
    }

pub loop-rest-preserved : goal.loop-rest-preserved
loop-rest-preserved t c =
    let F = expr_fault c.args.rule c.args.scope.now in
    record {
      size = search (rules, the_lemmas);
      gathers = two_parts F (F c.args.e.now) c.loop-rest.rest.now c.in-Times.left c.in-Times.right c.get-rest-in-Times.result.now c.get-in-Times.result.now c.loop-rest.found c.expr_fault-in-Times.result c.or-found-in-Times.result
          (ap F c.in-Times.is ∙ of_times c.args.rule c.args.scope.now c.in-Times.left c.in-Times.right) c.loop-rest.invariant.gathers c.get-rest-in-Times.ensures c.get-in-Times.ensures c.expr_fault-in-Times.ensures c.or-found-in-Times.ensures;
    }
