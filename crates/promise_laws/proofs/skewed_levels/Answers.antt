use Rattle.promise_laws.proofs.Levels.{skewed_levels as law}
use Rattle.promise_laws.proofs.skewed_levels.Goals as goal

pub returns : goal.returns
returns c = law
