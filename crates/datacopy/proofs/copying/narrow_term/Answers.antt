use Rattle.datacopy.specs.Narrow.{new_vars}
use Rattle.nest_core.specs.Forms.{has_vars}
use Rattle.datacopy.proofs.Widths.{judged_kept, all_more, count_more}
use Rattle.datacopy.proofs.copying.narrow_term.Goals as goal

pub loop-form-preserved : goal.loop-form-preserved
loop-form-preserved c = record {
  count = count_more _ _ _ _ c.in_ok-push.ensures.ok c.loop-form.invariant.count;
  over = all_more (has_vars (new_vars c.args.narrow.now)) _ _ _ c.in_ok-push.ensures.ok c.loop-form.invariant.over (judged_kept _ _ _ c.in_ok-form.ensures.width c.in_ok-judge_form.ensures);
}
