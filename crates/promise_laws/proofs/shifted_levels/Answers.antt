use Rattle.promise_laws.proofs.Levels.{shifted_levels as law}
use Rattle.promise_laws.proofs.shifted_levels.Goals as goal

pub returns : goal.returns
returns c = law
