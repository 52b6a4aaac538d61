use Rattle.scan_laws.proofs.Scanned.{scanned_list as law}
use Rattle.scan_laws.proofs.scans.scanned_kernel_has_its_list.Goals as goal

pub returns : goal.returns
returns c = law
