use Rattle.executor_laws.proofs.Sites.{sites_are_leaves as law}
use Rattle.executor_laws.proofs.sites_are_leaves.Goals as goal

pub returns : goal.returns
returns c = law
