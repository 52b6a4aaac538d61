use Rattle.std.proofs.Common.{rules}
use Rattle.nest_tree.specs.declared.body.Body.{the_lemmas}
use Rattle.nest_core.proofs.Chains.{down, smaller_more}
use Rattle.nest_core.proofs.chain.chain_of.Goals as goal

pub loop-rest-preserved-in-Plus : goal.loop-rest-preserved-in-Plus
loop-rest-preserved-in-Plus c =
    record {
      size = search (rules, the_lemmas);
      whole = down _ _ _ _ _ _ _ _ c.in-Plus.is c.get-rest.ensures c.get.ensures c.in_ok-push-in-Plus.ensures.items c.loop-rest.invariant.whole;
      smaller = smaller_more _ _ _ _ c.in_ok-push-in-Plus.ensures.items c.loop-rest.invariant.smaller (search (rules, the_lemmas));
    }

pub loop-rest-preserved-in-Minus : goal.loop-rest-preserved-in-Minus
loop-rest-preserved-in-Minus c =
    record {
      size = search (rules, the_lemmas);
      whole = down _ _ _ _ _ _ _ _ c.in-Minus.is c.get-rest-in-Minus.ensures c.get-in-Minus.ensures c.in_ok-push-in-Minus.ensures.items c.loop-rest.invariant.whole;
      smaller = smaller_more _ _ _ _ c.in_ok-push-in-Minus.ensures.items c.loop-rest.invariant.smaller (search (rules, the_lemmas));
    }

pub loop-rest-preserved : goal.loop-rest-preserved
loop-rest-preserved c =
    record {
      size = search (rules, the_lemmas);
      whole = down _ _ _ _ _ _ _ _ c.in-Times.is c.get-rest-in-Times.ensures c.get-in-Times.ensures c.in_ok-push-in-Times.ensures.items c.loop-rest.invariant.whole;
      smaller = smaller_more _ _ _ _ c.in_ok-push-in-Times.ensures.items c.loop-rest.invariant.smaller (search (rules, the_lemmas));
    }
