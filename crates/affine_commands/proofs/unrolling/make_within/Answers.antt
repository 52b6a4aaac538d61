use Rattle.nest_core.proofs.Shaped.{moved-shaped}
use Rattle.affine_commands.proofs.unrolling.make_within.Goals as goal

pub are_within-requires : goal.are_within-requires
are_within-requires c = rw c.as_slice.ensures (moved-shaped c.args.kernel.now c.args.moves.now c.in-Ok.nests c.requires.shaped c.requires.fits c.in-Ok.ensures).nests
