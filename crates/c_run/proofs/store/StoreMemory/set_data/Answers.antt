use Rattle.c_tree.specs.declared.program.Kind.TheVariants.{Number}
use Rattle.c_run.specs.Arrays.{shape_in}
use Rattle.c_run.specs.Store.{loops_of, params_of, tables_of}
use Rattle.c_run.proofs.Stores.{has_number, is_there, data_set}
use Rattle.c_run.proofs.store.StoreMemory.set_data.Goals as goal

pub set-requires-clause-has : goal.set-requires-clause-has
set-requires-clause-has c = is_there (tables_of c.args.self.now.arrays) c.args.array.now Number (has_number (shape_in (tables_of c.args.self.now.arrays) c.args.array.now) c.requires.has)

pub returns : goal.returns
returns c = data_set (loops_of c.args.self.now.numbers) (params_of c.args.self.now.numbers) (tables_of c.args.self.now.arrays) (tables_of c.set.new.self) c.args.array.now c.args.at c.args.value c.set.ensures.shapes c.set.ensures.cells (has_number (shape_in (tables_of c.args.self.now.arrays) c.args.array.now) c.requires.has)
