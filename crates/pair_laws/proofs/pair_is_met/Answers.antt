use Rattle.pair_laws.proofs.Pairs.{pair_met}
use Rattle.pair_laws.proofs.pair_is_met.Goals as goal

pub returns : goal.returns
returns c = pair_met
