use Rattle.std.proofs.Common.{◌∙◌, sym}
use Rattle.unroll.proofs.Replacing.{deeper}
use Rattle.unroll.proofs.replaced.+after.Goals as goal

pub names_after-returns : goal.names_after-returns
names_after-returns t c =
    let e = rw c.as_slice.ensures at c.if-is_held_after.ensures in
    c.names_inside_after.ensures ∙ sym (deeper c.args.first c.args.terms.now c.args.lower.now c.args.at c.args.var c.args.deep c.args.form.now c.if-deep-eq0.false e)
