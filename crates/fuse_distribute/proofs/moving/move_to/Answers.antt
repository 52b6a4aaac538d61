use Rattle.fuse_distribute.proofs.Standing.{moved_to-fits}
use Rattle.fuse_distribute.proofs.moving.move_to.Goals as goal

pub returns-clause-fits : goal.returns-clause-fits
returns-clause-fits c =
    let e = rw c.as_slice.ensures at c.in_ok-pieces.ensures in
    rw e (moved_to-fits c.args.kernel.now c.args.places.now c.args.applies c.requires.shaped c.requires.places c.requires.applies)
