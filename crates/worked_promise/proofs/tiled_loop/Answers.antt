use Rattle.worked_promise.proofs.Tiled.{tiled_loop as law}
use Rattle.worked_promise.proofs.tiled_loop.Goals as goal

pub returns : goal.returns
returns c = law
