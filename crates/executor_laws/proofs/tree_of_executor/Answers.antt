use Rattle.executor_laws.proofs.Trees.{tree_is as law}
use Rattle.executor_laws.proofs.tree_of_executor.Goals as goal

pub returns : goal.returns
returns c = law
