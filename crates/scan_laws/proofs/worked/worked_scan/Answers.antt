use Rattle.scan_laws.proofs.WorkedScan.{worked_scan as law}
use Rattle.scan_laws.proofs.worked.worked_scan.Goals as goal

pub returns : goal.returns
returns c = law
