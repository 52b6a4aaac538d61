use Rattle.scan_laws.proofs.WorkedParts.{worked_bounds as law}
use Rattle.scan_laws.proofs.worked.worked_bounds.Goals as goal

pub returns : goal.returns
returns c = law
