use Rattle.pair_laws.proofs.Levels.{no_dependence}
use Rattle.pair_laws.proofs.level_has_no_dependence.Goals as goal

pub returns : goal.returns
returns c = no_dependence
