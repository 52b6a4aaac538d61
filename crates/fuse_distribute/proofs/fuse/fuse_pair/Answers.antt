use Rattle.affine_moves.proofs.Counted.{shaped-placed}
use Rattle.fuse_distribute.proofs.Lengths.{fused-long}
use Rattle.fuse_distribute.proofs.fuse.fuse_pair.Goals as goal

pub child_count-count-requires : goal.child_count-count-requires
child_count-count-requires c = record { placed = rw c.as_slice-nests.ensures (shaped-placed c.args.kernel.now c.requires.shaped) }

pub all_positions-requires-clause-placed : goal.all_positions-requires-clause-placed
all_positions-requires-clause-placed c = rw c.as_slice-nests.ensures (shaped-placed c.args.kernel.now c.requires.shaped)

pub move_to-requires-clause-places : goal.move_to-requires-clause-places
move_to-requires-clause-places c =
    let e = rw c.as_slice-nests.ensures at c.in_ok-places.ensures in
    rw (c.as_slice.ensures, e) (fused-long c.args.level c.loop_of-place.result c.child_count-count.result c.args.second.now c.args.kernel.now.nests)
