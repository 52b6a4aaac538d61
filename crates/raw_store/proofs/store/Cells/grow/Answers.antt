use Rattle.std.proofs.Common.{◌<◌, arith}
use Rattle.raw_store.proofs.Directory.{not_many, grown_directory, grown_cells}
use Rattle.raw_store.proofs.store.Cells.grow.Goals as goal

pub overflow_sub-self-inside : goal.overflow_sub-self-inside
overflow_sub-self-inside c = let few = not_many _ _ c.self.invariant in omega arith

pub invariant_of-self-2 : goal.invariant_of-self-2
invariant_of-self-2 c =
    let some : 0 < c.args.count = omega arith in grown_directory _ _ c.self.invariant _ c.self.view_is _ some _ _ c.locate-last.ensures _ c.in_ok-add_blocks.ensures.added

pub returns-clause-grown : goal.returns-clause-grown
returns-clause-grown c =
    let some : 0 < c.args.count = omega arith in grown_cells _ _ c.self.invariant _ c.self.view_is _ some _ _ c.locate-last.ensures _ c.in_ok-add_blocks.ensures.added
