use Rattle.std.proofs.Common.{◌∙◌}
use Rattle.c_tree.specs.declared.program.Kind.TheVariants.{Number}
use Rattle.c_run.specs.Arrays.{shape_in}
use Rattle.c_run.specs.Store.{loops_of, params_of, tables_of}
use Rattle.c_run.proofs.Stores.{has_number, is_there, data_read}
use Rattle.c_run.proofs.store.StoreMemory.data_cell.Goals as goal

pub get-requires : goal.get-requires
get-requires c = is_there (tables_of c.args.self.now.arrays) c.args.array.now Number (has_number (shape_in (tables_of c.args.self.now.arrays) c.args.array.now) c.requires)

pub returns : goal.returns
returns c = c.get.ensures ∙ data_read (loops_of c.args.self.now.numbers) (params_of c.args.self.now.numbers) (tables_of c.args.self.now.arrays) c.args.array.now c.args.at (has_number (shape_in (tables_of c.args.self.now.arrays) c.args.array.now) c.requires)
