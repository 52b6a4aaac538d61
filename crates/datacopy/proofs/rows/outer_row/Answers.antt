use Rattle.std.proofs.Common.{rules, ◌≤◌, ◌+◌}
use Rattle.datacopy.proofs.Widths.{judged_kept, row_kept}
use Rattle.datacopy.proofs.rows.outer_row.Goals as goal

pub returns : goal.returns
returns c =
    let l : c.outer_own.result ≤ c.args.narrow.now.outer + c.args.narrow.now.dims = search rules in
    row_kept _ _ _ _ _ c.args.row.now c.in_ok-judge_form.field-0 c.requires.row (judged_kept _ _ _ c.in_ok-form.ensures.width c.in_ok-judge_form.ensures) l c.outer_own.ensures.guard
