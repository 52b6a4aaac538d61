-- The walk down the left part, at each kind of right side.
use Rattle.std.proofs.Common.{rules}
use Rattle.nest_tree.specs.declared.body.Body.{the_lemmas}
use Rattle.pad_layouts.specs.Products.{sum_factors, product_factors}
use Rattle.pad_layouts.proofs.Factors.{factors-Const, factors-At, factors-Plus, factors-Minus, factors-Times, steps, ends}
use Rattle.pad_layouts.proofs.product.+factors_of.Goals as goal

pub returns-in-Const : goal.returns-in-Const
returns-in-Const t c = ends _ _ _ _ _ _ _ _ (factors-Const _ _ _ _ _ c.in-Const.is) c.loop-rest.invariant.gathers c.transferred.ensures

pub returns-in-At : goal.returns-in-At
returns-in-At t c = ends _ _ _ _ _ _ _ _ (rw c.cell_factors.ensures (factors-At _ _ _ _ _ c.in-At.is)) c.loop-rest.invariant.gathers c.transferred-in-At.ensures

pub loop-rest-preserved-in-Plus : goal.loop-rest-preserved-in-Plus
loop-rest-preserved-in-Plus t c =
    record {
      size = search (rules, the_lemmas);
      gathers = steps _ _ _ sum_factors _ _ _ _ _ _ _ _ _ (factors-Plus _ _ _ _ _ _ c.in-Plus.is) c.get-rest.ensures c.get.ensures c.factors_of.ensures c.left_of_sum-transfer.ensures c.loop-rest.invariant.gathers;
    }

pub loop-rest-preserved-in-Minus : goal.loop-rest-preserved-in-Minus
loop-rest-preserved-in-Minus t c =
    record {
      size = search (rules, the_lemmas);
      gathers = steps _ _ _ sum_factors _ _ _ _ _ _ _ _ _ (factors-Minus _ _ _ _ _ _ c.in-Minus.is) c.get-rest-in-Minus.ensures c.get-in-Minus.ensures c.factors_of-in-Minus.ensures c.left_of_sum-transfer-in-Minus.ensures
          c.loop-rest.invariant.gathers;
    }

pub loop-rest-preserved : goal.loop-rest-preserved
loop-rest-preserved t c =
    record {
      size = search (rules, the_lemmas);
      gathers = steps _ _ _ product_factors _ _ _ _ _ _ _ _ _ (factors-Times _ _ _ _ _ _ c.in-Times.is) c.get-rest-in-Times.ensures c.get-in-Times.ensures c.factors_of-in-Times.ensures c.left_of_product-transfer.ensures
          c.loop-rest.invariant.gathers;
    }
