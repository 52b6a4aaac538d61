use Rattle.candidate_laws.proofs.Worked.{worked}
use Rattle.candidate_laws.proofs.worked_candidates.Goals as goal

pub returns : goal.returns
returns c = worked
