use Rattle.acceptance_laws.proofs.Listed.{listed as law}
use Rattle.acceptance_laws.proofs.mentions_are_listed.Goals as goal

pub returns : goal.returns
returns c = law
