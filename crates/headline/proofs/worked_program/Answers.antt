use Rattle.headline.proofs.Examples.{copy_performs}
use Rattle.headline.proofs.worked_program.Goals as goal

pub returns : goal.returns
returns c = copy_performs
