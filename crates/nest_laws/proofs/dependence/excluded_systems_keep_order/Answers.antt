use Rattle.nest_laws.proofs.Tested.{excluded_keep as law}
use Rattle.nest_laws.proofs.dependence.excluded_systems_keep_order.Goals as goal

pub returns : goal.returns
returns c = law
