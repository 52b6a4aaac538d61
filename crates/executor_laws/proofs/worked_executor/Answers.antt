use Rattle.executor_laws.proofs.Examples.{worked as law}
use Rattle.executor_laws.proofs.worked_executor.Goals as goal

pub returns : goal.returns
returns c = law
