use Rattle.run_laws.proofs.Examples.{copy_can_run}
use Rattle.run_laws.proofs.laws.copy_can_run.Goals as goal

pub returns : goal.returns
returns c = copy_can_run
