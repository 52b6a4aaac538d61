use Rattle.acceptance_laws.proofs.Scopes.{within as law}
use Rattle.acceptance_laws.proofs.reached_is_within.Goals as goal

pub returns : goal.returns
returns c = law
