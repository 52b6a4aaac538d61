use Rattle.input_laws.proofs.Starts.{runs}
use Rattle.input_laws.proofs.same_runs.Goals as goal

pub returns : goal.returns
returns c = runs
