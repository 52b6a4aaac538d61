use Rattle.std.proofs.Common.{◌<◌, w64, subst}
use Rattle.std.proofs.lemmas.Int.{to_z-of_z}
use Rattle.c_run.specs.Store.{loops_of, params_of, tables_of}
use Rattle.c_run.proofs.Stacks.{layers_length}
use Rattle.c_run.proofs.Stores.{entering}
use Rattle.c_run.proofs.store.StoreMemory.enter.Goals as goal

pub enter-requires : goal.enter-requires
enter-requires c = subst (λ n. n < 8) (layers_length (loops_of c.args.self.now.numbers) (params_of c.args.self.now.numbers)) c.requires

pub returns : goal.returns
returns c =
    let loops = rw (to_z-of_z w64 c.args.value c.ranges.value) at c.enter.ensures.loops in
    entering (loops_of c.args.self.now.numbers) (loops_of c.enter.new.self) (params_of c.args.self.now.numbers) (params_of c.enter.new.self) (tables_of c.args.self.now.arrays) c.args.variable c.args.value loops c.enter.ensures.params
