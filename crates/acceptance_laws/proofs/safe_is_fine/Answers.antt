use Rattle.acceptance_laws.proofs.Seen.{safe_fine as law}
use Rattle.acceptance_laws.proofs.safe_is_fine.Goals as goal

pub returns : goal.returns
returns c = law
