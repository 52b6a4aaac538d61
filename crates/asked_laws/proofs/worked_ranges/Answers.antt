use Rattle.asked_laws.proofs.Worked.{worked_ranges as law}
use Rattle.asked_laws.proofs.worked_ranges.Goals as goal

pub returns : goal.returns
returns c = law
