use Rattle.std.proofs.Common.{◌<◌, subst}
use Rattle.c_run.specs.Store.{loops_of, params_of, tables_of}
use Rattle.c_run.proofs.Stacks.{layers_length}
use Rattle.c_run.proofs.Stores.{leaving}
use Rattle.c_run.proofs.store.StoreMemory.leave.Goals as goal

pub leave-requires : goal.leave-requires
leave-requires c = subst (λ n. 0 < n) (layers_length (loops_of c.args.self.now.numbers) (params_of c.args.self.now.numbers)) c.requires

pub returns : goal.returns
returns c = leaving (loops_of c.args.self.now.numbers) (loops_of c.leave.new.self) (params_of c.args.self.now.numbers) (params_of c.leave.new.self) (tables_of c.args.self.now.arrays) (subst (λ n. 0 < n) (layers_length (loops_of c.args.self.now.numbers) (params_of c.args.self.now.numbers)) c.requires) c.leave.ensures.loops c.leave.ensures.params
