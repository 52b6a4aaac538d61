use Rattle.worked_laws.proofs.Pieces.{permuted_grid as law}
use Rattle.worked_laws.proofs.commands.permuted_grid.Goals as goal

pub returns : goal.returns
returns c = law
