use Rattle.unroll_bounds.proofs.Worked.{worked_copy as law}
use Rattle.unroll_bounds.proofs.worked_copy.Goals as goal

pub returns : goal.returns
returns c = law
