use Rattle.scan_laws.proofs.WorkedAlone.{alone_printed as law}
use Rattle.scan_laws.proofs.worked.worked_alone.Goals as goal

pub returns : goal.returns
returns c = law
