use Rattle.order_laws.proofs.Skewing.{skew_changes_none}
use Rattle.order_laws.proofs.skew_changes_none.Goals as goal

pub returns : goal.returns
returns c = skew_changes_none
