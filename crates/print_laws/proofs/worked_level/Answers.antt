use Rattle.print_laws.proofs.Asked.{worked_level as law}
use Rattle.print_laws.proofs.worked_level.Goals as goal

pub returns : goal.returns
returns c = law
