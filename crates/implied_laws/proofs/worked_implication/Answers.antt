use Rattle.implied_laws.proofs.Worked.{worked as law}
use Rattle.implied_laws.proofs.worked_implication.Goals as goal

pub returns : goal.returns
returns c = law
