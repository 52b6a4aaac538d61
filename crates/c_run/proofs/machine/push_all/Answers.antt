use Rattle.std.proofs.Common.{length, get_or, refl, ap, ◌∙◌, arith}
use Rattle.c_run.specs.Store.{scope_of_store, tables_of}
use Rattle.c_run.proofs.Signatures.{is_table, at_index}
use Rattle.c_run.proofs.machine.push_all.Goals as goal

pub grid-requires : goal.grid-requires
grid-requires c =
    let s = c.args.store.now in
    let items = c.as_slice-array-items.ensures in
    is_table (tables_of s.arrays) (scope_of_store s) c.array-item.result.name refl refl
    (c.requires c.loop-array.array-index c.array-item.result (at_index c.args.program.now.arrays c.loop-array.array-index c.array-item.result (let n = ap length items in let lt = c.loop-array-test.true in omega (arith, n, lt)) (c.array-item.is ∙ ap (λ l. get_or l c.loop-array.array-index c.array-item.result) items)))
