use Rattle.worked_laws.proofs.Running.{leaves_of_a_loop as law}
use Rattle.worked_laws.proofs.runs.leaves_of_a_loop.Goals as goal

pub returns : goal.returns
returns c = law
