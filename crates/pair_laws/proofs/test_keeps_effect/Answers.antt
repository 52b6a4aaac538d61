use Rattle.pair_laws.proofs.Changes.{keeps_effect}
use Rattle.pair_laws.proofs.test_keeps_effect.Goals as goal

pub returns : goal.returns
returns c = keeps_effect
