use Rattle.pair_laws.proofs.Changes.{none_changes}
use Rattle.pair_laws.proofs.none_open_none_changes.Goals as goal

pub returns : goal.returns
returns c = none_changes
