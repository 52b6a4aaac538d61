use Rattle.acceptance_laws.proofs.Safe.{accepted_fine as law}
use Rattle.acceptance_laws.proofs.accepted_is_fine.Goals as goal

pub returns : goal.returns
returns c = law
