-- The walk down the left part, at each kind of expression.
use Rattle.std.proofs.Common.{rules, sym, ap, ◌∙◌, w64, FitsSigned, unsigned_abs}
use Rattle.std.proofs.lemmas.Int.{to_z-of_z}
use Rattle.c_tree.specs.declared.index.Index.{the_lemmas}
use Rattle.c_judge.specs.Limits.{capped, size_of}
use Rattle.c_judge.proofs.SizesAt.{size_const, size_var, size_cell, size_neg, size_plus, size_minus, size_times, size_min, size_max, size_floor, size_ceil, part, parts, leaf, product_ends, greater_ends}
use Rattle.c_judge.proofs.size.+size.Goals as goal

pub returns-in-Const : goal.returns-in-Const
returns-in-Const t c =
    let f : FitsSigned w64 c.in-Const.n = search rules in
    leaf c.loop-rest.rest.now _ c.loop-rest.total c.saturating_add.result (capped (size_of c.args.e.now)) (ap size_of c.in-Const.is ∙ size_const c.in-Const.n ∙ sym (c.unsigned_abs.ensures.value ∙ ap unsigned_abs (to_z-of_z w64 c.in-Const.n f))) c.saturating_add.ensures c.loop-rest.invariant.gathers

pub returns-in-Var : goal.returns-in-Var
returns-in-Var t c =
    leaf c.loop-rest.rest.now _ c.loop-rest.total c.saturating_add-in-Var.result (capped (size_of c.args.e.now)) (ap size_of c.in-Var.is ∙ size_var c.in-Var.field-0) c.saturating_add-in-Var.ensures c.loop-rest.invariant.gathers

pub returns-in-At : goal.returns-in-At
returns-in-At t c =
    leaf c.loop-rest.rest.now _ c.loop-rest.total c.saturating_add-in-At.result (capped (size_of c.args.e.now)) (ap size_of c.in-At.is ∙ size_cell c.in-At.field-0) c.saturating_add-in-At.ensures c.loop-rest.invariant.gathers

pub returns-in-Times : goal.returns-in-Times
returns-in-Times t c =
    let f : FitsSigned w64 c.in-Times.n = search rules in
    product_ends c.loop-rest.rest.now c.in-Times.n c.in-Times.inner c.get-in-Times.result.now c.unsigned_abs-in-Times.result c.size-in-Times.result c.saturating_mul-product.result c.loop-rest.total c.saturating_add-in-Times.result (capped (size_of c.args.e.now))
    (ap size_of c.in-Times.is ∙ size_times c.in-Times.n c.in-Times.inner) c.get-in-Times.ensures (c.unsigned_abs-in-Times.ensures.value ∙ ap unsigned_abs (to_z-of_z w64 c.in-Times.n f)) c.size-in-Times.ensures c.saturating_mul-product.ensures c.saturating_add-in-Times.ensures c.loop-rest.invariant.gathers

pub returns-in-Min : goal.returns-in-Min
returns-in-Min t c =
    greater_ends c.loop-rest.rest.now c.in-Min.left c.in-Min.right c.get-in-Min.result.now c.get-in-Min-2.result.now c.size-in-Min.result c.size-in-Min-2.result c.max-greater.result c.loop-rest.total c.saturating_add-in-Min.result (capped (size_of c.args.e.now))
    (ap size_of c.in-Min.is ∙ size_min c.in-Min.left c.in-Min.right) c.get-in-Min.ensures c.get-in-Min-2.ensures c.size-in-Min.ensures c.size-in-Min-2.ensures c.max-greater.ensures c.saturating_add-in-Min.ensures c.loop-rest.invariant.gathers

pub returns-in-Max : goal.returns-in-Max
returns-in-Max t c =
    greater_ends c.loop-rest.rest.now c.in-Max.left c.in-Max.right c.get-in-Max.result.now c.get-in-Max-2.result.now c.size-in-Max.result c.size-in-Max-2.result c.max-greater-in-Max.result c.loop-rest.total c.saturating_add-in-Max.result (capped (size_of c.args.e.now))
    (ap size_of c.in-Max.is ∙ size_max c.in-Max.left c.in-Max.right) c.get-in-Max.ensures c.get-in-Max-2.ensures c.size-in-Max.ensures c.size-in-Max-2.ensures c.max-greater-in-Max.ensures c.saturating_add-in-Max.ensures c.loop-rest.invariant.gathers

pub loop-rest-preserved-in-Neg : goal.loop-rest-preserved-in-Neg
loop-rest-preserved-in-Neg t c =
    record {
      size = search (rules, the_lemmas);
      gathers = part c.loop-rest.rest.now c.in-Neg.inner c.get-rest.result.now c.loop-rest.total (capped (size_of c.args.e.now)) (ap size_of c.in-Neg.is ∙ size_neg c.in-Neg.inner) c.get-rest.ensures c.loop-rest.invariant.gathers;
    }

pub loop-rest-preserved-in-Plus : goal.loop-rest-preserved-in-Plus
loop-rest-preserved-in-Plus t c =
    record {
      size = search (rules, the_lemmas);
      gathers = parts c.loop-rest.rest.now c.in-Plus.left c.in-Plus.right c.get-rest-in-Plus.result.now c.get.result.now c.loop-rest.total c.size.result c.saturating_add-total.result (capped (size_of c.args.e.now))
          (ap size_of c.in-Plus.is ∙ size_plus c.in-Plus.left c.in-Plus.right) c.get-rest-in-Plus.ensures c.get.ensures c.size.ensures c.saturating_add-total.ensures c.loop-rest.invariant.gathers;
    }

pub loop-rest-preserved-in-Minus : goal.loop-rest-preserved-in-Minus
loop-rest-preserved-in-Minus t c =
    record {
      size = search (rules, the_lemmas);
      gathers = parts c.loop-rest.rest.now c.in-Minus.left c.in-Minus.right c.get-rest-in-Minus.result.now c.get-in-Minus.result.now c.loop-rest.total c.size-in-Minus.result c.saturating_add-total-in-Minus.result (capped (size_of c.args.e.now))
          (ap size_of c.in-Minus.is ∙ size_minus c.in-Minus.left c.in-Minus.right) c.get-rest-in-Minus.ensures c.get-in-Minus.ensures c.size-in-Minus.ensures c.saturating_add-total-in-Minus.ensures c.loop-rest.invariant.gathers;
    }

pub loop-rest-preserved-in-Floor : goal.loop-rest-preserved-in-Floor
loop-rest-preserved-in-Floor t c =
    record {
      size = search (rules, the_lemmas);
      gathers = part c.loop-rest.rest.now c.in-Floor.inner c.get-rest-in-Floor.result.now c.loop-rest.total (capped (size_of c.args.e.now)) (ap size_of c.in-Floor.is ∙ size_floor c.in-Floor.inner c.in-Floor.field-1) c.get-rest-in-Floor.ensures c.loop-rest.invariant.gathers;
    }

pub loop-rest-preserved : goal.loop-rest-preserved
loop-rest-preserved t c =
    record {
      size = search (rules, the_lemmas);
      gathers = part c.loop-rest.rest.now c.in-Ceil.inner c.get-rest-in-Ceil.result.now c.loop-rest.total (capped (size_of c.args.e.now)) (ap size_of c.in-Ceil.is ∙ size_ceil c.in-Ceil.inner c.in-Ceil.field-1) c.get-rest-in-Ceil.ensures c.loop-rest.invariant.gathers;
    }
