use Rattle.acceptance_laws.proofs.Trees.{safe_executor as law}
use Rattle.acceptance_laws.proofs.safe_executor_is_fine.Goals as goal

pub returns : goal.returns
returns c = law
