use Rattle.std.proofs.Common.{length, ap, sym, ◌∙◌}
use Rattle.int_rows.specs.declared.row.Aff.{Aff}
use Rattle.int_rows.specs.declared.row.Row.{Row}
use Rattle.int_rows.specs.declared.row.Excess.TheVariants.{Large}
use Rattle.int_sets.specs.Views.{form_of, row_of}
use Rattle.int_sets.proofs.Canceling.{replaced-width}
use Rattle.int_sets.proofs.Replacing.{replaced-more, replaced-past}
use Rattle.int_sets.proofs.replace.replaced_rows.Goals as goal

pub push-requires : goal.push-requires
push-requires c =
    ap (λ (r : Row). length r.form.coefs) (c.row_ref.ensures ∙ c.in-Ok.ensures.1)
    ∙ replaced-width c.args.rows.now.vars c.args.var (form_of c.aff_ref-by.result) (row_of c.row.result) (ap (λ (f : Aff). length f.coefs) c.aff_ref-by.ensures ∙ c.requires.width) c.row.ensures.width
    ∙ sym c.loop-i.invariant.1

pub returns-in-Err-Refused : goal.returns-in-Err-Refused
returns-in-Err-Refused c =
    let by = form_of c.aff_ref-by.result in
    let no = rw c.in-Err-Refused.field-0-is at c.in-Err-Refused.ensures in
    let past = replaced-past c.args.var by c.args.rows.now.rows c.loop-i.i c.loop-i.new.rows (row_of c.row.result) c.row.ensures.row _ no c.loop-i.invariant.0 in
    (_, rw (c.aff_ref-by.ensures) at past, ap Large c.in-Err-Refused.var-is)

pub loop-i-preserved : goal.loop-i-preserved
loop-i-preserved c =
    let by = form_of c.aff_ref-by.result in
    rw (c.in_ok-push-in-Ok.ensures.ok, c.row_ref.ensures)
    (replaced-more c.args.var by c.args.rows.now.rows c.loop-i.i c.loop-i.new.rows (row_of c.row.result) c.row.ensures.row c.in-Ok.row c.in-Ok.ensures c.loop-i.invariant.0, c.loop-i.invariant.1)
