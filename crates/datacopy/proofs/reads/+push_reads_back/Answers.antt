use Rattle.std.proofs.Common.{rules}
use Rattle.nest_tree.specs.declared.body.Body.{the_lemmas}
use Rattle.datacopy.proofs.Reading.{reads-Plus, reads-Minus, reads-Times}
use Rattle.datacopy.proofs.Backwards.{back_const, back_cell, back_two}
use Rattle.datacopy.proofs.reads.+push_reads_back.Goals as goal

pub returns-in-Const : goal.returns-in-Const
returns-in-Const t c = back_const c.args.array _ _ _ _ c.in-Const.is c.loop-rest.invariant.gathers

pub returns-in-At : goal.returns-in-At
returns-in-At t c = back_cell c.args.array _ _ _ _ _ c.in-At.is c.in_ok-push_read-in-At.ensures c.loop-rest.invariant.gathers

pub loop-rest-preserved-in-Plus : goal.loop-rest-preserved-in-Plus
loop-rest-preserved-in-Plus t c =
    record {
      size = search (rules, the_lemmas);
      gathers = back_two c.args.array _ _ _ _ _ _ _ _ (reads-Plus _ _ _ _ c.in-Plus.is) c.get-rest.ensures c.get.ensures c.in_ok-push_reads_back-in-Plus.ensures c.loop-rest.invariant.gathers;
    }

pub loop-rest-preserved-in-Minus : goal.loop-rest-preserved-in-Minus
loop-rest-preserved-in-Minus t c =
    record {
      size = search (rules, the_lemmas);
      gathers = back_two c.args.array _ _ _ _ _ _ _ _ (reads-Minus _ _ _ _ c.in-Minus.is) c.get-rest-in-Minus.ensures c.get-in-Minus.ensures c.in_ok-push_reads_back-in-Minus.ensures c.loop-rest.invariant.gathers;
    }

pub loop-rest-preserved : goal.loop-rest-preserved
loop-rest-preserved t c =
    record {
      size = search (rules, the_lemmas);
      gathers = back_two c.args.array _ _ _ _ _ _ _ _ (reads-Times _ _ _ _ c.in-Times.is) c.get-rest-in-Times.ensures c.get-in-Times.ensures c.in_ok-push_reads_back-in-Times.ensures c.loop-rest.invariant.gathers;
    }
