use Rattle.pair_laws.proofs.Pairs.{subscripts_met}
use Rattle.pair_laws.proofs.subscripts_are_met.Goals as goal

pub returns : goal.returns
returns c = subscripts_met
