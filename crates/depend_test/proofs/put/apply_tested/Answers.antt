use Rattle.nest_core.proofs.Shaped.{moved-shaped}
use Rattle.depend_test.proofs.put.apply_tested.Goals as goal

pub returns-in-Ok-None-clause-shaped : goal.returns-in-Ok-None-clause-shaped
returns-in-Ok-None-clause-shaped c = moved-shaped c.args.kernel.now c.args.moves.now _ c.requires.shaped c.requires.fits c.in-Ok.ensures
