use Rattle.std.proofs.Common.{rules, w64, ap, sym, ◌∙◌, Some, None, refl}
use Rattle.std.proofs.lemmas.Int.{to_z-of_z}
use Rattle.c_tree.specs.declared.program.Kind.TheVariants.{Position}
use Rattle.c_run.specs.Arrays.{shape_in}
use Rattle.c_run.specs.Store.{loops_of, params_of, tables_of}
use Rattle.c_run.proofs.Stores.{has_position, is_there, number_read}
use Rattle.c_run.proofs.store.StoreView.cell.Goals as goal

pub get-requires : goal.get-requires
get-requires c = is_there (tables_of c.args.self.now.arrays) c.args.array.now Position (has_position (shape_in (tables_of c.args.self.now.arrays) c.args.array.now) c.requires)

pub returns-in-Some : goal.returns-in-Some
returns-in-Some c = number_read (loops_of c.args.self.now.numbers) (params_of c.args.self.now.numbers) (tables_of c.args.self.now.arrays) c.args.array.now c.args.at (Some c.in-Some.cell) _ (has_position (shape_in (tables_of c.args.self.now.arrays) c.args.array.now) c.requires) (sym c.in-Some.is ∙ c.get.ensures) (ap Some (to_z-of_z w64 c.number_of.result (search rules) ∙ c.number_of.ensures))

pub returns-in-None : goal.returns-in-None
returns-in-None c = number_read (loops_of c.args.self.now.numbers) (params_of c.args.self.now.numbers) (tables_of c.args.self.now.arrays) c.args.array.now c.args.at None None (has_position (shape_in (tables_of c.args.self.now.arrays) c.args.array.now) c.requires) (sym c.in-None.is ∙ c.get.ensures) refl
