use Rattle.std.proofs.Common.{◌∙◌, sym}
use Rattle.nest_limits.proofs.Deeper.{access-deeper}
use Rattle.nest_limits.proofs.body.access_fits.Goals as goal

pub returns : goal.returns
returns c = rw c.as_slice.ensures at c.forms_fit.ensures ∙ sym (access-deeper c.args.first c.args.terms.now c.args.access.now c.args.room c.if-room-eq0.false)
