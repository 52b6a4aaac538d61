use Rattle.nest_core.proofs.Shaped.{moved-shaped}
use Rattle.affine_commands.proofs.unrolling.put_within.Goals as goal

pub returns-clause-shaped : goal.returns-clause-shaped
returns-clause-shaped c = moved-shaped c.args.kernel.now c.args.moves.now c.in_ok-kernel.field-0 c.requires.shaped c.requires.fits c.in_ok-kernel.ensures.made
