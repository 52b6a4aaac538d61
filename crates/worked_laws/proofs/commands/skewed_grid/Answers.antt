use Rattle.worked_laws.proofs.Pieces.{skewed_grid as law}
use Rattle.worked_laws.proofs.commands.skewed_grid.Goals as goal

pub returns : goal.returns
returns c = law
