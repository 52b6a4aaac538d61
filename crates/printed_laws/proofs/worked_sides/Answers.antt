use Rattle.printed_laws.proofs.Examples.{worked_sides as law}
use Rattle.printed_laws.proofs.worked_sides.Goals as goal

pub returns : goal.returns
returns c = law
