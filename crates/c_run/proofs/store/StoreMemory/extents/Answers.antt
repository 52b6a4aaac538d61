use Rattle.c_run.specs.Store.{tables_of}
use Rattle.c_run.proofs.Stores.{is_array}
use Rattle.c_run.proofs.store.StoreMemory.extents.Goals as goal

pub extents-requires : goal.extents-requires
extents-requires c = is_array (tables_of c.args.self.now.arrays) c.args.array.now c.requires
