use Rattle.std.proofs.Common.{ℕ, ◌%◌, ◌^◌, List}
use Rattle.c_run.specs.Store.{tables_of}
use Rattle.measured_run.specs.Figures.{weighed}
use Rattle.measured_run.proofs.Told.{told, untold}
use Rattle.measured_run.proofs.machine.layout_of.Goals as goal

pub returns-in-Some : goal.returns-in-Some
returns-in-Some c =
    told (λ (cells : List ℕ). weighed 0 cells % 2 ^ 64) (tables_of c.args.machine.now.store.arrays) c.args.array.now c.name.result c.in-Some.grid.now c.cells.result.now c.layout.result c.name.ensures c.in-Some.ensures c.cells.ensures.cells c.cells.ensures.full c.layout.ensures.words c.layout.ensures.sum

pub returns-in-None : goal.returns-in-None
returns-in-None c = untold (λ (cells : List ℕ). weighed 0 cells % 2 ^ 64) (tables_of c.args.machine.now.store.arrays) c.args.array.now c.name.result c.name.ensures c.in-None.ensures
