use Rattle.input_laws.proofs.Examples.{worked_runs}
use Rattle.input_laws.proofs.worked_runs.Goals as goal

pub returns : goal.returns
returns c = worked_runs
