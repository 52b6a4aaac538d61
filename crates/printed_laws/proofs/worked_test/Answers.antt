use Rattle.printed_laws.proofs.Examples.{worked_test as law}
use Rattle.printed_laws.proofs.worked_test.Goals as goal

pub returns : goal.returns
returns c = law
