use Rattle.promise_laws.proofs.Levels.{permuted_levels as law}
use Rattle.promise_laws.proofs.permuted_levels.Goals as goal

pub returns : goal.returns
returns c = law
