use Rattle.std.proofs.Common.{sym, ◌∙◌, ap}
use Rattle.raw_store.specs.Rows.{Rows}
use Rattle.csr_data.specs.declared.values.Table.{Table}
use Rattle.csr_data.proofs.Cells.{with_cell_at, found_name, has_place}
use Rattle.csr_data.proofs.values.Values.set.Goals as goal

pub returns-clause-arrays : goal.returns-clause-arrays
returns-clause-arrays c =
    let ts = c.args.self.now.arrays.items in let i = c.loop-number.number in let t = c.index_mut.result.now in
    let lt = has_place ts i c.args.name.now c.args.at c.loop-number.invariant.there in
    with_cell_at ts i t _ c.args.name.now c.args.at c.args.value lt c.index_mut.ensures.value
    (found_name ts i c.index.result.now t c.args.name.now _ _ lt c.index.ensures c.index_mut.ensures.value c.bytes.ensures.bytes c.bytes-in-loop-number.ensures.bytes (sym c.ne.ensures ∙ c.loop-number-test.false))
    (ap (λ (g : Rows). let u : Table = record { name = t.name; kind = t.kind; dimensions = t.dimensions; cells = g } in u) c.set.ensures) c.loop-number.invariant.passed
