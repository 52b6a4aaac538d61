use Rattle.std.proofs.Common.{arith, length, ◌≡◌, sym, ap, ◌∙◌, set, pos, Some}
use Rattle.std.proofs.lemmas.Result.{on_ok_weaker}
use Rattle.c_meaning.specs.Run.{is_within, grown}
use Rattle.c_run.specs.Arrays.{table_of, number_in, shape_in, cell_in, cell_at, grown_shape}
use Rattle.c_run.proofs.Grids.{cell_grown}
use Rattle.c_run.proofs.Tables.{with_rows, number_below, table_read, shape_changed, cells_kept, either, within_is, grown_is}
use Rattle.c_run.proofs.Triples.{extents_are}
use Rattle.c_run.proofs.arrays.Arrays.grow.Goals as goal

pub index_mut-table-requires : goal.index_mut-table-requires
index_mut-table-requires c =
    let below = number_below c.args.self.now.tables.items c.args.name.now c.number-number.result c.requires.has (c.number-number.ensures ∙ ap (λ l. number_in l c.args.name.now) c.as_slice.ensures.value) in
    omega (arith, below, ap length c.as_slice.ensures.value, c.as_slice.ensures.len)

pub grow_rows-requires-clause-rows : goal.grow_rows-requires-clause-rows
grow_rows-requires-clause-rows c =
    let ts = c.args.self.now.tables.items in
    let x = c.args.name.now in
    let t = c.index_mut-table.result.now in
    let e : c.number-number.result ≡ number_in ts x = c.number-number.ensures ∙ ap (λ l. number_in l x) c.as_slice.ensures.value in
    let h : table_of ts x ≡ Some t = table_read ts x c.number-number.result c.requires.has e t c.index_mut-table.ensures.value in
    (within_is t.cells.first c.args.count t.cells.deep t.cells.wide (ap (λ es. is_within (grown (pos c.args.count) es)) (sym (extents_are ts x t h)) ∙ c.requires.within)).0

pub grow_rows-requires-clause-cells : goal.grow_rows-requires-clause-cells
grow_rows-requires-clause-cells c =
    let ts = c.args.self.now.tables.items in
    let x = c.args.name.now in
    let t = c.index_mut-table.result.now in
    let e : c.number-number.result ≡ number_in ts x = c.number-number.ensures ∙ ap (λ l. number_in l x) c.as_slice.ensures.value in
    let h : table_of ts x ≡ Some t = table_read ts x c.number-number.result c.requires.has e t c.index_mut-table.ensures.value in
    (within_is t.cells.first c.args.count t.cells.deep t.cells.wide (ap (λ es. is_within (grown (pos c.args.count) es)) (sym (extents_are ts x t h)) ∙ c.requires.within)).1

pub returns-clause-grown : goal.returns-clause-grown
returns-clause-grown c =
    let ts = c.args.self.now.tables.items in
    let x = c.args.name.now in
    let t = c.index_mut-table.result.now in
    let e : c.number-number.result ≡ number_in ts x = c.number-number.ensures ∙ ap (λ l. number_in l x) c.as_slice.ensures.value in
    let h : table_of ts x ≡ Some t = table_read ts x c.number-number.result c.requires.has e t c.index_mut-table.ensures.value in
    on_ok_weaker c.grow_rows.result (λ new y. ap (λ n. shape_in (set ts n (with_rows c.grow_rows.new.self t)) y) e ∙ shape_changed ts x t c.grow_rows.new.self h (grown_shape (pos c.args.count)) (grown_is t c.args.count c.grow_rows.new.self new) y) c.grow_rows.ensures.grown

pub returns-clause-cells : goal.returns-clause-cells
returns-clause-cells c = λ y q.
    let ts = c.args.self.now.tables.items in
    let x = c.args.name.now in
    let t = c.index_mut-table.result.now in
    let e : c.number-number.result ≡ number_in ts x = c.number-number.ensures ∙ ap (λ l. number_in l x) c.as_slice.ensures.value in
    let h : table_of ts x ≡ Some t = table_read ts x c.number-number.result c.requires.has e t c.index_mut-table.ensures.value in
    ap (λ n. cell_at (set ts n (with_rows c.grow_rows.new.self t)) y q) e
    ∙ either c.grow_rows.result c.grow_rows.ensures.grown c.grow_rows.ensures.kept
    (λ new. cells_kept ts x t c.grow_rows.new.self h (λ q. ap (λ g. cell_in g q) new ∙ cell_grown t.cells c.args.count c.extents-extents.ensures.product q) y q)
    (λ old. cells_kept ts x t c.grow_rows.new.self h (λ q. ap (λ g. cell_in g q) old) y q)
