use Rattle.affine_moves.proofs.Counted.{shaped-placed}
use Rattle.fuse_distribute.proofs.Lengths.{split-long}
use Rattle.fuse_distribute.proofs.distribute.distribute_at.Goals as goal

pub split_each-requires-clause-placed : goal.split_each-requires-clause-placed
split_each-requires-clause-placed c = rw c.as_slice-nests.ensures (shaped-placed c.args.kernel.now c.requires.shaped)

pub move_to-requires-clause-places : goal.move_to-requires-clause-places
move_to-requires-clause-places c =
    let e = rw c.as_slice-nests.ensures at c.in_ok-places.ensures in
    rw (c.as_slice.ensures, e) (split-long c.args.level c.args.statement c.args.nest.now 0 c.args.kernel.now.nests)
