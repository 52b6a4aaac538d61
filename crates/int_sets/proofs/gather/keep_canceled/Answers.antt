use Rattle.std.proofs.Common.{length, ap, ◌∙◌}
use Rattle.int_rows.specs.declared.row.Row.{Row}
use Rattle.int_sets.specs.Views.{row_of}
use Rattle.int_sets.proofs.Canceling.{canceled-width}
use Rattle.int_sets.proofs.gather.keep_canceled.Goals as goal

pub keep-requires : goal.keep-requires
keep-requires c =
    let made = c.in_ok-made.ensures in
    ap (λ (r : Row). length r.form.coefs) (c.row_ref.ensures ∙ made.1)
    ∙ canceled-width c.args.kept.now.kept.vars c.args.var (row_of c.args.first.now) (row_of c.args.second.now) c.requires.first_row c.requires.second_row made.0
