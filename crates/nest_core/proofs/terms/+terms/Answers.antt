use Rattle.std.proofs.Common.{◌∙◌, sym}
use Rattle.nest_core.proofs.Naming.{deeper}
use Rattle.nest_core.proofs.terms.+terms.Goals as goal

pub names-returns : goal.names-returns
names-returns t c =
    let e = rw c.as_slice.ensures at c.if-is_held.ensures in
    c.names_inside.ensures ∙ sym (deeper c.args.first c.args.terms.now c.args.var c.args.deep c.args.form.now c.if-deep-eq0.false e)
