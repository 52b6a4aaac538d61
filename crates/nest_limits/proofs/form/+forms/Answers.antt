use Rattle.std.proofs.Common.{◌∙◌, sym}
use Rattle.nest_limits.proofs.Deeper.{term-deeper}
use Rattle.nest_limits.proofs.form.+forms.Goals as goal

pub term_fits-returns : goal.term_fits-returns
term_fits-returns t c = rw c.as_slice.ensures at c.forms_fit.ensures ∙ sym (term-deeper c.args.first c.args.terms.now c.args.room c.args.term.now c.if-room-eq0.false)
