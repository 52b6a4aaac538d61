use Rattle.std.proofs.Common.{w64, ◌∙◌}
use Rattle.std.proofs.lemmas.Int.{to_z-of_z}
use Rattle.c_tree.specs.declared.program.Kind.TheVariants.{Position}
use Rattle.c_run.specs.Arrays.{shape_in}
use Rattle.c_run.specs.Store.{loops_of, params_of, tables_of}
use Rattle.c_run.proofs.Stores.{has_position, is_there, number_set}
use Rattle.c_run.proofs.store.StoreMemory.set_index.Goals as goal

pub set-requires-clause-has : goal.set-requires-clause-has
set-requires-clause-has c = is_there (tables_of c.args.self.now.arrays) c.args.array.now Position (has_position (shape_in (tables_of c.args.self.now.arrays) c.args.array.now) c.requires.has)

pub returns : goal.returns
returns c =
    number_set (loops_of c.args.self.now.numbers) (params_of c.args.self.now.numbers) (tables_of c.args.self.now.arrays) (tables_of c.set.new.self) c.args.array.now c.args.at c.cell_of.result c.set.ensures.shapes c.set.ensures.cells c.args.value (c.cell_of.ensures ∙ to_z-of_z w64 c.args.value c.ranges.value) (has_position (shape_in (tables_of c.args.self.now.arrays) c.args.array.now) c.requires.has)
