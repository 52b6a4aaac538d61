use Rattle.scan_laws.proofs.CopyLoop.{worked_printing as law}
use Rattle.scan_laws.proofs.worked.worked_printing.Goals as goal

pub returns : goal.returns
returns c = law
