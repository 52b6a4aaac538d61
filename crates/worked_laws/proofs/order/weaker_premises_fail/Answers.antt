use Rattle.worked_laws.proofs.Places.{premises_fail as law}
use Rattle.worked_laws.proofs.order.weaker_premises_fail.Goals as goal

pub returns : goal.returns
returns c = law
