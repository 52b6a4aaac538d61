use Rattle.asked_laws.proofs.Worked.{worked as law}
use Rattle.asked_laws.proofs.worked_context.Goals as goal

pub returns : goal.returns
returns c = law
