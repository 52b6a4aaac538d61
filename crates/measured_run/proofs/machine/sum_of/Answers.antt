use Rattle.c_run.specs.Store.{tables_of}
use Rattle.measured_run.specs.Figures.{total}
use Rattle.measured_run.proofs.Told.{told, untold}
use Rattle.measured_run.proofs.machine.sum_of.Goals as goal

pub returns-in-Some : goal.returns-in-Some
returns-in-Some c =
    told total (tables_of c.args.machine.now.store.arrays) c.args.array.now c.name.result c.in-Some.grid.now c.cells.result.now c.sum.result c.name.ensures c.in-Some.ensures c.cells.ensures.cells c.cells.ensures.full c.sum.ensures.words c.sum.ensures.sum

pub returns-in-None : goal.returns-in-None
returns-in-None c = untold total (tables_of c.args.machine.now.store.arrays) c.args.array.now c.name.result c.name.ensures c.in-None.ensures
