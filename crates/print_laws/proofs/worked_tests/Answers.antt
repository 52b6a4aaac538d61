use Rattle.print_laws.proofs.Asked.{worked_tests as law}
use Rattle.print_laws.proofs.worked_tests.Goals as goal

pub returns : goal.returns
returns c = law
