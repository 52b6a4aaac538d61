use Rattle.nest_laws.proofs.Running.{executor as law}
use Rattle.nest_laws.proofs.runs.executor_performs_its_loops.Goals as goal

pub returns : goal.returns
returns c = law
