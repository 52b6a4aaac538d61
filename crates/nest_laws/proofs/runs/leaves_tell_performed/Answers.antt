use Rattle.nest_laws.proofs.Running.{leaves_tell as law}
use Rattle.nest_laws.proofs.runs.leaves_tell_performed.Goals as goal

pub returns : goal.returns
returns c = law
