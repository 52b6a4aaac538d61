use Rattle.worked_laws.proofs.Running.{copying_run as law}
use Rattle.worked_laws.proofs.runs.copying_run.Goals as goal

pub returns : goal.returns
returns c = law
