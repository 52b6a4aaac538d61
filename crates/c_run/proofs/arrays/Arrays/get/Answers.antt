use Rattle.std.proofs.Common.{sym, ◌∙◌, subst}
use Rattle.raw_store.specs.Rows.{IsInside}
use Rattle.c_run.specs.Arrays.{extents_of_rows}
use Rattle.c_run.specs.Store.{tables_of}
use Rattle.c_run.proofs.Grids.{is_grid_inside}
use Rattle.c_run.proofs.Triples.{some_places, no_places, seen_some, seen_none}
use Rattle.c_run.proofs.arrays.Arrays.get.Goals as goal

pub get-requires : goal.get-requires
get-requires c =
    let p = some_places c.args.at (extents_of_rows c.find_table-table.result.now.cells) c.in-Some.places (sym c.places.ensures.places ∙ c.in-Some.is) in
    subst (IsInside c.find_table-table.result.now.cells) (sym p.1) (is_grid_inside c.find_table-table.result.now.cells c.args.at p.0)

pub returns-in-Some : goal.returns-in-Some
returns-in-Some c =
    let p = some_places c.args.at (extents_of_rows c.find_table-table.result.now.cells) c.in-Some.places (sym c.places.ensures.places ∙ c.in-Some.is) in
    seen_some (tables_of c.args.self.now) c.args.name.now c.find_table-table.result.now (rw c.as_slice.ensures.value at c.find_table-table.ensures) c.args.at c.get.result p.0 (rw (sym p.1) c.get.ensures)

pub returns-in-None : goal.returns-in-None
returns-in-None c =
    seen_none (tables_of c.args.self.now) c.args.name.now c.find_table-table.result.now (rw c.as_slice.ensures.value at c.find_table-table.ensures) c.args.at (no_places c.args.at (extents_of_rows c.find_table-table.result.now.cells) (sym c.places.ensures.places ∙ c.in-None.is))
