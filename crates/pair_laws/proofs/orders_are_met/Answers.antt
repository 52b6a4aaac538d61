use Rattle.pair_laws.proofs.Pairs.{orders_met}
use Rattle.pair_laws.proofs.orders_are_met.Goals as goal

pub returns : goal.returns
returns c = orders_met
