use Rattle.print_laws.proofs.Asked.{worked_bound as law}
use Rattle.print_laws.proofs.worked_bound.Goals as goal

pub returns : goal.returns
returns c = law
