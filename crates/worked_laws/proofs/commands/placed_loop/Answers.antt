use Rattle.worked_laws.proofs.Pieces.{placed_loop as law}
use Rattle.worked_laws.proofs.commands.placed_loop.Goals as goal

pub returns : goal.returns
returns c = law
