use Rattle.printed_laws.proofs.Examples.{worked_levels as law}
use Rattle.printed_laws.proofs.worked_levels.Goals as goal

pub returns : goal.returns
returns c = law
