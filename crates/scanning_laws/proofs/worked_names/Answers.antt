use Rattle.scanning_laws.proofs.Examples.{worked_names as law}
use Rattle.scanning_laws.proofs.worked_names.Goals as goal

pub returns : goal.returns
returns c = law
