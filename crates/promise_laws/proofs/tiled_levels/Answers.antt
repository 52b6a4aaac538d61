use Rattle.promise_laws.proofs.Levels.{tiled_levels as law}
use Rattle.promise_laws.proofs.tiled_levels.Goals as goal

pub returns : goal.returns
returns c = law
