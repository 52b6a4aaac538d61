use Rattle.std.proofs.Common.{arith, length, ◌≡◌, sym, ap, ◌∙◌, subst, slice_set, set, Some, true, false}
use Rattle.std.proofs.Common.{List, ℕ}
use Rattle.raw_store.specs.Rows.{Rows, IsInside, place}
use Rattle.c_run.specs.Arrays.{table_of, number_in, shape_in, cell_in, cell_at, extents_of_rows}
use Rattle.c_run.proofs.Grids.{is_grid_inside, cell_written}
use Rattle.c_run.proofs.Tables.{with_rows, number_below, table_read, shape_kept, cells_changed}
use Rattle.c_run.proofs.Triples.{some_places, no_places, inside_table}
use Rattle.c_run.proofs.arrays.Arrays.set.Goals as goal

pub index_mut-table-requires : goal.index_mut-table-requires
index_mut-table-requires c =
    let below = number_below c.args.self.now.tables.items c.args.name.now c.number-number.result c.requires.has (c.number-number.ensures ∙ ap (λ l. number_in l c.args.name.now) c.as_slice.ensures.value) in
    omega (arith, below, ap length c.as_slice.ensures.value, c.as_slice.ensures.len)

pub set-requires : goal.set-requires
set-requires c =
    let t = c.index_mut-table.result.now in
    let p = some_places c.args.at (extents_of_rows t.cells) c.in-Some.places (sym c.places.ensures.places ∙ c.in-Some.is) in
    subst (IsInside t.cells) (sym p.1) (is_grid_inside t.cells c.args.at p.0)

pub unreachable-requires : goal.unreachable-requires
unreachable-requires c =
    let ts = c.args.self.now.tables.items in
    let x = c.args.name.now in
    let t = c.index_mut-table.result.now in
    let e : c.number-number.result ≡ number_in ts x = c.number-number.ensures ∙ ap (λ l. number_in l x) c.as_slice.ensures.value in
    let h : table_of ts x ≡ Some t = table_read ts x c.number-number.result c.requires.has e t c.index_mut-table.ensures.value in
    let yes = inside_table ts x t h c.args.at c.requires.inside in
    let no = no_places c.args.at (extents_of_rows t.cells) (sym c.places.ensures.places ∙ c.in-None.is) in
    let contradiction : true ≡ false = sym yes ∙ no in
    cc

pub returns-clause-shapes : goal.returns-clause-shapes
returns-clause-shapes c = λ y.
    let ts = c.args.self.now.tables.items in
    let x = c.args.name.now in
    let t = c.index_mut-table.result.now in
    let e : c.number-number.result ≡ number_in ts x = c.number-number.ensures ∙ ap (λ l. number_in l x) c.as_slice.ensures.value in
    let h : table_of ts x ≡ Some t = table_read ts x c.number-number.result c.requires.has e t c.index_mut-table.ensures.value in
    ap (λ n. shape_in (set ts n (with_rows c.set.new.self t)) y) e ∙ shape_kept ts x t c.set.new.self h (ap extents_of_rows c.set.ensures) y

pub returns-clause-cells : goal.returns-clause-cells
returns-clause-cells c = λ y q.
    let ts = c.args.self.now.tables.items in
    let x = c.args.name.now in
    let t = c.index_mut-table.result.now in
    let e : c.number-number.result ≡ number_in ts x = c.number-number.ensures ∙ ap (λ l. number_in l x) c.as_slice.ensures.value in
    let h : table_of ts x ≡ Some t = table_read ts x c.number-number.result c.requires.has e t c.index_mut-table.ensures.value in
    let p = some_places c.args.at (extents_of_rows t.cells) c.in-Some.places (sym c.places.ensures.places ∙ c.in-Some.is) in
    let same = c.set.ensures ∙ ap (λ (at : List ℕ). let g : Rows = record t.cells { cells = slice_set t.cells.cells (place t.cells at) c.args.value } in g) p.1 in
    ap (λ n. cell_at (set ts n (with_rows c.set.new.self t)) y q) e
    ∙ cells_changed ts x t c.set.new.self h c.args.at c.args.value (λ q. ap (λ g. cell_in g q) same ∙ cell_written t.cells c.args.at c.args.value c.places.ensures.product p.0 q) y q
