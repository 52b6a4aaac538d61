use Rattle.std.proofs.Common.{◌≡◌, length}
use Rattle.int_sets.proofs.Unpacking.{packed-push, unpacked-push, went_well}
use Rattle.int_sets.proofs.packed.PackedRows.push.Goals as goal

pub invariant_of-self-else-is_err : goal.invariant_of-self-else-is_err
invariant_of-self-else-is_err c =
    let width : length c.args.row.now.form.coefs.now ≡ c.self.inside.vars = rw (← c.self.view_is) at c.requires in
    let more = went_well c.append.result c.is_err.result _ c.is_err.ensures.value c.if-is_err.false c.append.ensures.ok in
    rw (c.in_ok-push.ensures.items, more) (packed-push _ _ _ c.args.row.now.equal _ c.args.row.now.form.constant c.self.invariant width)

pub returns-clause-ok : goal.returns-clause-ok
returns-clause-ok c =
    let width : length c.args.row.now.form.coefs.now ≡ c.self.inside.vars = rw (← c.self.view_is) at c.requires in
    let more = went_well c.append.result c.is_err.result _ c.is_err.ensures.value c.if-is_err.false c.append.ensures.ok in
    rw (← c.self.view_is, c.in_ok-push.ensures.items, more)
    (λ i. record { vars = c.self.inside.vars; rows = unpacked-push _ _ _ c.args.row.now.equal _ c.args.row.now.form.constant c.self.invariant width i })
