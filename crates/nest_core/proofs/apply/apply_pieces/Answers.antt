use Rattle.nest_core.proofs.Shaped.{moved-shaped}
use Rattle.nest_core.proofs.apply.apply_pieces.Goals as goal

pub returns-clause-shaped : goal.returns-clause-shaped
returns-clause-shaped c = moved-shaped c.args.kernel.now c.args.moves.now _ c.requires.shaped c.requires.fits c.in_ok-kernel.ensures
