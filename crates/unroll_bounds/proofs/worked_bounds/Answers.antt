use Rattle.unroll_bounds.proofs.Worked.{worked as law}
use Rattle.unroll_bounds.proofs.worked_bounds.Goals as goal

pub returns : goal.returns
returns c = law
