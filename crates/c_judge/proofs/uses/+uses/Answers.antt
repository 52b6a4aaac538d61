-- The walk down the left part, at each kind of expression.
use Rattle.std.proofs.Common.{rules, sym, ap, ◌∙◌, refl, arith}
use Rattle.c_tree.specs.declared.index.Index.{the_lemmas}
use Rattle.c_judge.specs.Uses.{index_fault}
use Rattle.c_judge.proofs.UsesAt.{at_const, at_var, at_at, at_neg, at_plus, at_minus, at_times, at_min, at_max, at_floor, at_ceil, cell_is, one_is, two_is, three_is, begins, one_part, two_parts, ends}
use Rattle.c_judge.proofs.uses.+uses.Goals as goal

pub index_cell_fault-returns : goal.index_cell_fault-returns
index_cell_fault-returns t c =
    cell_is c.args.rule c.args.scope.now c.args.cell.now c.cell_fault-own.result c.subscripts_fault.result c.or.result c.subscript_count.result
    c.cell_fault-own.ensures (c.subscript_count.ensures c.args.rule c.args.scope.now) c.subscripts_fault.ensures c.or.ensures

pub index_fault-loop-rest-init : goal.index_fault-loop-rest-init
index_fault-loop-rest-init t c = record { size = omega arith; gathers = begins (index_fault c.args.rule c.args.scope.now) c.args.e.now }

pub index_fault-returns-in-Const : goal.index_fault-returns-in-Const
index_fault-returns-in-Const t c =
    let F = index_fault c.args.rule c.args.scope.now in
    ends F (F c.args.e.now) c.loop-rest.rest.now _ c.loop-rest.found c.loop-rest.found (ap F c.in-Const.is ∙ at_const c.args.rule c.args.scope.now c.in-Const.field-0) c.loop-rest.invariant.gathers refl

pub index_fault-returns-in-Var : goal.index_fault-returns-in-Var
index_fault-returns-in-Var t c =
    let F = index_fault c.args.rule c.args.scope.now in
    ends F (F c.args.e.now) c.loop-rest.rest.now c.value_fault.result c.loop-rest.found c.or.result (ap F c.in-Var.is ∙ at_var c.args.rule c.args.scope.now c.in-Var.name ∙ sym c.value_fault.ensures) c.loop-rest.invariant.gathers c.or.ensures

pub index_fault-returns-in-At : goal.index_fault-returns-in-At
index_fault-returns-in-At t c =
    let F = index_fault c.args.rule c.args.scope.now in
    ends F (F c.args.e.now) c.loop-rest.rest.now c.index_cell_fault.result c.loop-rest.found c.or-in-At.result (ap F c.in-At.is ∙ at_at c.args.rule c.args.scope.now c.in-At.cell ∙ sym c.index_cell_fault.ensures) c.loop-rest.invariant.gathers c.or-in-At.ensures

pub index_fault-loop-rest-preserved-in-Neg : goal.index_fault-loop-rest-preserved-in-Neg
index_fault-loop-rest-preserved-in-Neg t c =
    let F = index_fault c.args.rule c.args.scope.now in
    record {
      size = search (rules, the_lemmas);
      gathers = one_part F (F c.args.e.now) c.loop-rest.rest.now c.in-Neg.inner c.get-rest.result.now c.loop-rest.found (ap F c.in-Neg.is ∙ at_neg c.args.rule c.args.scope.now c.in-Neg.inner) c.loop-rest.invariant.gathers c.get-rest.ensures;
    }

pub index_fault-loop-rest-preserved-in-Plus : goal.index_fault-loop-rest-preserved-in-Plus
index_fault-loop-rest-preserved-in-Plus t c =
    let F = index_fault c.args.rule c.args.scope.now in
    record {
      size = search (rules, the_lemmas);
      gathers = two_parts F (F c.args.e.now) c.loop-rest.rest.now c.in-Plus.left c.in-Plus.right c.get-rest-in-Plus.result.now c.get.result.now c.loop-rest.found c.index_fault.result c.or-found.result
          (ap F c.in-Plus.is ∙ at_plus c.args.rule c.args.scope.now c.in-Plus.left c.in-Plus.right) c.loop-rest.invariant.gathers c.get-rest-in-Plus.ensures c.get.ensures c.index_fault.ensures c.or-found.ensures;
    }

pub index_fault-loop-rest-preserved-in-Minus : goal.index_fault-loop-rest-preserved-in-Minus
index_fault-loop-rest-preserved-in-Minus t c =
    let F = index_fault c.args.rule c.args.scope.now in
    record {
      size = search (rules, the_lemmas);
      gathers = two_parts F (F c.args.e.now) c.loop-rest.rest.now c.in-Minus.left c.in-Minus.right c.get-rest-in-Minus.result.now c.get-in-Minus.result.now c.loop-rest.found c.index_fault-in-Minus.result c.or-found-in-Minus.result
          (ap F c.in-Minus.is ∙ at_minus c.args.rule c.args.scope.now c.in-Minus.left c.in-Minus.right) c.loop-rest.invariant.gathers c.get-rest-in-Minus.ensures c.get-in-Minus.ensures c.index_fault-in-Minus.ensures c.or-found-in-Minus.ensures;
    }

pub index_fault-loop-rest-preserved-in-Times : goal.index_fault-loop-rest-preserved-in-Times
index_fault-loop-rest-preserved-in-Times t c =
    let F = index_fault c.args.rule c.args.scope.now in
    record {
      size = search (rules, the_lemmas);
      gathers = one_part F (F c.args.e.now) c.loop-rest.rest.now c.in-Times.inner c.get-rest-in-Times.result.now c.loop-rest.found (ap F c.in-Times.is ∙ at_times c.args.rule c.args.scope.now c.in-Times.field-0 c.in-Times.inner) c.loop-rest.invariant.gathers c.get-rest-in-Times.ensures;
    }

pub index_fault-loop-rest-preserved-in-Min : goal.index_fault-loop-rest-preserved-in-Min
index_fault-loop-rest-preserved-in-Min t c =
    let F = index_fault c.args.rule c.args.scope.now in
    record {
      size = search (rules, the_lemmas);
      gathers = two_parts F (F c.args.e.now) c.loop-rest.rest.now c.in-Min.left c.in-Min.right c.get-rest-in-Min.result.now c.get-in-Min.result.now c.loop-rest.found c.index_fault-in-Min.result c.or-found-in-Min.result
          (ap F c.in-Min.is ∙ at_min c.args.rule c.args.scope.now c.in-Min.left c.in-Min.right) c.loop-rest.invariant.gathers c.get-rest-in-Min.ensures c.get-in-Min.ensures c.index_fault-in-Min.ensures c.or-found-in-Min.ensures;
    }

pub index_fault-loop-rest-preserved-in-Max : goal.index_fault-loop-rest-preserved-in-Max
index_fault-loop-rest-preserved-in-Max t c =
    let F = index_fault c.args.rule c.args.scope.now in
    record {
      size = search (rules, the_lemmas);
      gathers = two_parts F (F c.args.e.now) c.loop-rest.rest.now c.in-Max.left c.in-Max.right c.get-rest-in-Max.result.now c.get-in-Max.result.now c.loop-rest.found c.index_fault-in-Max.result c.or-found-in-Max.result
          (ap F c.in-Max.is ∙ at_max c.args.rule c.args.scope.now c.in-Max.left c.in-Max.right) c.loop-rest.invariant.gathers c.get-rest-in-Max.ensures c.get-in-Max.ensures c.index_fault-in-Max.ensures c.or-found-in-Max.ensures;
    }

pub index_fault-loop-rest-preserved-in-Floor : goal.index_fault-loop-rest-preserved-in-Floor
index_fault-loop-rest-preserved-in-Floor t c =
    let F = index_fault c.args.rule c.args.scope.now in
    record {
      size = search (rules, the_lemmas);
      gathers = one_part F (F c.args.e.now) c.loop-rest.rest.now c.in-Floor.inner c.get-rest-in-Floor.result.now c.loop-rest.found (ap F c.in-Floor.is ∙ at_floor c.args.rule c.args.scope.now c.in-Floor.inner c.in-Floor.field-1) c.loop-rest.invariant.gathers c.get-rest-in-Floor.ensures;
    }

pub index_fault-loop-rest-preserved : goal.index_fault-loop-rest-preserved
index_fault-loop-rest-preserved t c =
    let F = index_fault c.args.rule c.args.scope.now in
    record {
      size = search (rules, the_lemmas);
      gathers = one_part F (F c.args.e.now) c.loop-rest.rest.now c.in-Ceil.inner c.get-rest-in-Ceil.result.now c.loop-rest.found (ap F c.in-Ceil.is ∙ at_ceil c.args.rule c.args.scope.now c.in-Ceil.inner c.in-Ceil.field-1) c.loop-rest.invariant.gathers c.get-rest-in-Ceil.ensures;
    }

pub subscripts_fault-returns-in-One : goal.subscripts_fault-returns-in-One
subscripts_fault-returns-in-One t c =
    let F = index_fault c.args.rule c.args.scope.now in
    one_is c.args.rule c.args.scope.now c.args.at.now c.in-One.first c.index_fault.result c.in-One.is (c.index_fault.ensures ∙ ap F c.get.ensures)

pub subscripts_fault-returns-in-Two : goal.subscripts_fault-returns-in-Two
subscripts_fault-returns-in-Two t c =
    let F = index_fault c.args.rule c.args.scope.now in
    two_is c.args.rule c.args.scope.now c.args.at.now c.in-Two.first c.in-Two.second c.index_fault-in-Two.result c.index_fault-in-Two-2.result c.or.result c.in-Two.is
    (c.index_fault-in-Two.ensures ∙ ap F c.get-in-Two.ensures) (c.index_fault-in-Two-2.ensures ∙ ap F c.get-in-Two-2.ensures) c.or.ensures

pub subscripts_fault-returns-in-Three : goal.subscripts_fault-returns-in-Three
subscripts_fault-returns-in-Three t c =
    let F = index_fault c.args.rule c.args.scope.now in
    three_is c.args.rule c.args.scope.now c.args.at.now c.in-Three.first c.in-Three.second c.in-Three.third c.index_fault-in-Three-3.result c.index_fault-in-Three.result c.index_fault-in-Three-2.result c.or-behind.result c.or-in-Three.result c.in-Three.is
    (c.index_fault-in-Three-3.ensures ∙ ap F c.get-in-Three-3.ensures) (c.index_fault-in-Three.ensures ∙ ap F c.get-in-Three.ensures) (c.index_fault-in-Three-2.ensures ∙ ap F c.get-in-Three-2.ensures) c.or-behind.ensures c.or-in-Three.ensures
