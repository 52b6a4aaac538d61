use Rattle.std.proofs.Common.{rules}
use Rattle.c_tree.specs.declared.index.Index.{the_lemmas}
use Rattle.tree_copies.specs.Sums.{applied, sign_of, part_of, is_at_most}
use Rattle.tree_copies.proofs.Linking.{down, all_more}
use Rattle.tree_copies.proofs.index.parts_of.Goals as goal

pub loop-first-preserved-in-Plus : goal.loop-first-preserved-in-Plus
loop-first-preserved-in-Plus c =
    record {
      size = search (rules, the_lemmas);
      whole = down applied sign_of part_of _ _ _ _ _ _ _ _ c.in-Plus.is c.get-first.ensures c.get.ensures c.in_ok-push-in-Plus.ensures.items c.loop-first.invariant.whole;
      parts = all_more (is_at_most _) _ _ _ c.in_ok-push-in-Plus.ensures.items c.loop-first.invariant.parts (search (rules, the_lemmas));
    }

pub loop-first-preserved : goal.loop-first-preserved
loop-first-preserved c =
    record {
      size = search (rules, the_lemmas);
      whole = down applied sign_of part_of _ _ _ _ _ _ _ _ c.in-Minus.is c.get-first-in-Minus.ensures c.get-in-Minus.ensures c.in_ok-push-in-Minus.ensures.items c.loop-first.invariant.whole;
      parts = all_more (is_at_most _) _ _ _ c.in_ok-push-in-Minus.ensures.items c.loop-first.invariant.parts (search (rules, the_lemmas));
    }
