use Rattle.unroll_laws.proofs.TenCopies.{worked as law}
use Rattle.unroll_laws.proofs.laws.worked_unrolling.Goals as goal

pub returns : goal.returns
returns c = law
