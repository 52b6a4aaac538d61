use Rattle.std.proofs.Common.{rules, ◌<◌, ◌+◌, ◌*◌, length}
use Rattle.int_sets.proofs.Unpacking.{kind-inside, numbers-inside, row-is, row-width}
use Rattle.int_sets.proofs.packed.PackedRows.row.Goals as goal

pub overflow_mul-start : goal.overflow_mul-start
overflow_mul-start c =
    let h : c.args.at * (c.self.inside.vars + 1) + c.self.inside.vars < length c.self.inside.numbers.items = numbers-inside _ _ _ _ c.self.view_is c.self.invariant c.args.at c.requires in
    search (rules, h)

pub index-requires : goal.index-requires
index-requires c =
    let h : c.args.at < length c.self.inside.kinds.items = kind-inside _ _ _ _ c.self.view_is c.self.invariant c.args.at c.requires in
    search (rules, h)

pub form_at-requires : goal.form_at-requires
form_at-requires c =
    let h : c.args.at * (c.self.inside.vars + 1) + c.self.inside.vars < length c.self.inside.numbers.items = numbers-inside _ _ _ _ c.self.view_is c.self.invariant c.args.at c.requires in
    rw c.deref.ensures.value h

pub returns-clause-row : goal.returns-clause-row
returns-clause-row c =
    row-is _ _ _ _ c.self.view_is c.self.invariant c.args.at c.requires c.index.result.now c.form_at.result.coefs.now c.form_at.result.constant c.index.ensures (rw c.deref.ensures.value at c.form_at.ensures.coefs) (rw c.deref.ensures.value at c.form_at.ensures.constant)

pub returns-clause-width : goal.returns-clause-width
returns-clause-width c = row-width _ _ _ _ c.self.view_is c.self.invariant c.args.at c.requires c.form_at.result.coefs.now (rw c.deref.ensures.value at c.form_at.ensures.coefs)
