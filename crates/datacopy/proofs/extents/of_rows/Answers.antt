use Rattle.std.proofs.Common.{ap, ◌∙◌, pos, length}
use Rattle.nest_core.specs.Forms.{has_vars}
use Rattle.datacopy.proofs.Widths.{one_width}
use Rattle.datacopy.proofs.extents.of_rows.Goals as goal

pub returns-in_ok-parameter_form-in-Some-clause-width : goal.returns-in_ok-parameter_form-in-Some-clause-width
returns-in_ok-parameter_form-in-Some-clause-width c =
    ap (λ e. has_vars (length c.args.head.now.params) e.form) c.of_form.ensures ∙ ap (has_vars (length c.args.head.now.params)) c.in_ok-parameter_form-in-Some.ensures ∙ one_width c.args.head.now.params _ (pos 0)
