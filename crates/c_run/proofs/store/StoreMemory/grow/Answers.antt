use Rattle.std.proofs.Common.{pos}
use Rattle.std.proofs.lemmas.Result.{on_ok_weaker}
use Rattle.c_run.specs.Store.{loops_of, params_of, tables_of}
use Rattle.c_run.proofs.Stores.{is_array, extent_set}
use Rattle.c_run.proofs.store.StoreMemory.grow.Goals as goal

pub grow-requires-clause-has : goal.grow-requires-clause-has
grow-requires-clause-has c = is_array (tables_of c.args.self.now.arrays) c.args.array.now c.requires.has

pub returns-clause-grown : goal.returns-clause-grown
returns-clause-grown c =
    on_ok_weaker c.grow.result (λ shapes. extent_set (loops_of c.args.self.now.numbers) (params_of c.args.self.now.numbers) (tables_of c.args.self.now.arrays) (tables_of c.grow.new.self) c.args.array.now (pos c.args.count) c.grow.ensures.cells shapes (is_array (tables_of c.args.self.now.arrays) c.args.array.now c.requires.has)) c.grow.ensures.grown
