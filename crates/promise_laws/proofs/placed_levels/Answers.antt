use Rattle.promise_laws.proofs.Levels.{placed_levels as law}
use Rattle.promise_laws.proofs.placed_levels.Goals as goal

pub returns : goal.returns
returns c = law
