use Rattle.std.proofs.Common.{rules, ap, ◌∙◌, ◌++◌, ◌∷◌, []}
use Rattle.nest_tree.specs.declared.body.Access.{Access}
use Rattle.nest_tree.specs.declared.body.Body.{the_lemmas}
use Rattle.nest_systems.specs.Cells.{reads}
use Rattle.nest_systems.proofs.Reading.{back_const, back_cell, back_two, reads-plus, reads-minus, reads-times}
use Rattle.nest_systems.proofs.access.+push_reads_back.Goals as goal

pub returns-in-Const : goal.returns-in-Const
returns-in-Const t c = back_const _ _ _ _ c.in-Const.is c.loop-rest.invariant.gathers

pub returns-in-At : goal.returns-in-At
returns-in-At t c =
    back_cell _ _ _ _ _ c.in-At.is (c.in_ok-push-in-At.ensures.items ∙ ap (λ (a : Access). c.loop-rest.all.items ++ a ∷ []) c.in_ok-copy_access-in-At.ensures) c.loop-rest.invariant.gathers

pub loop-rest-preserved-in-Plus : goal.loop-rest-preserved-in-Plus
loop-rest-preserved-in-Plus t c =
    record {
      size = search (rules, the_lemmas);
      gathers = back_two c.loop-rest.rest.now c.in-Plus.left c.in-Plus.right c.get-rest.result.now c.get.result.now c.loop-rest.all.items _ _ (ap reads c.in-Plus.is ∙ reads-plus c.in-Plus.left c.in-Plus.right)
          c.get-rest.ensures c.get.ensures c.in_ok-push_reads_back-in-Plus.ensures c.loop-rest.invariant.gathers;
    }

pub loop-rest-preserved-in-Minus : goal.loop-rest-preserved-in-Minus
loop-rest-preserved-in-Minus t c =
    record {
      size = search (rules, the_lemmas);
      gathers = back_two c.loop-rest.rest.now c.in-Minus.left c.in-Minus.right c.get-rest-in-Minus.result.now c.get-in-Minus.result.now c.loop-rest.all.items _ _ (ap reads c.in-Minus.is ∙ reads-minus c.in-Minus.left c.in-Minus.right)
          c.get-rest-in-Minus.ensures c.get-in-Minus.ensures c.in_ok-push_reads_back-in-Minus.ensures c.loop-rest.invariant.gathers;
    }

pub loop-rest-preserved : goal.loop-rest-preserved
loop-rest-preserved t c =
    record {
      size = search (rules, the_lemmas);
      gathers = back_two c.loop-rest.rest.now c.in-Times.left c.in-Times.right c.get-rest-in-Times.result.now c.get-in-Times.result.now c.loop-rest.all.items _ _ (ap reads c.in-Times.is ∙ reads-times c.in-Times.left c.in-Times.right)
          c.get-rest-in-Times.ensures c.get-in-Times.ensures c.in_ok-push_reads_back-in-Times.ensures c.loop-rest.invariant.gathers;
    }
