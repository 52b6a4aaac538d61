use Rattle.pair_laws.proofs.Shifted.{shifted_loop}
use Rattle.pair_laws.proofs.shifted_loop.Goals as goal

pub returns : goal.returns
returns c = shifted_loop
