use Rattle.pair_laws.proofs.Candidates.{no_instances}
use Rattle.pair_laws.proofs.excluded_has_no_instances.Goals as goal

pub returns : goal.returns
returns c = no_instances
