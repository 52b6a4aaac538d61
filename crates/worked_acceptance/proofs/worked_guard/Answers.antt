use Rattle.worked_acceptance.proofs.Guarded.{guarded_accepted as law}
use Rattle.worked_acceptance.proofs.worked_guard.Goals as goal

pub returns : goal.returns
returns c = law
