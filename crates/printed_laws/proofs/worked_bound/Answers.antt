use Rattle.printed_laws.proofs.Examples.{worked_bound as law}
use Rattle.printed_laws.proofs.worked_bound.Goals as goal

pub returns : goal.returns
returns c = law
