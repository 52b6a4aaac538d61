use Rattle.first_laws.proofs.Examples.{copies}
use Rattle.first_laws.proofs.worked_program.Goals as goal

pub returns : goal.returns
returns c = copies
