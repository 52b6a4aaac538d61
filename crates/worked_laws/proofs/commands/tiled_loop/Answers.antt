use Rattle.worked_laws.proofs.Pieces.{tiled_loop as law}
use Rattle.worked_laws.proofs.commands.tiled_loop.Goals as goal

pub returns : goal.returns
returns c = law
