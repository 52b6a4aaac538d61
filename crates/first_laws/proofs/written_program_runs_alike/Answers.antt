use Rattle.first_laws.proofs.Programs.{runs_alike}
use Rattle.first_laws.proofs.written_program_runs_alike.Goals as goal

pub returns : goal.returns
returns c = runs_alike
