use Rattle.scan_laws.proofs.WorkedParts.{worked_size as law}
use Rattle.scan_laws.proofs.worked.worked_size.Goals as goal

pub returns : goal.returns
returns c = law
