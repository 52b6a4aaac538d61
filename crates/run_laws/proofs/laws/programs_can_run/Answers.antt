use Rattle.run_laws.proofs.Programs.{program_can_run}
use Rattle.run_laws.proofs.laws.programs_can_run.Goals as goal

pub returns : goal.returns
returns c = program_can_run
