use Rattle.scan_laws.proofs.CopyLoop.{worked_executor as law}
use Rattle.scan_laws.proofs.worked.worked_executor.Goals as goal

pub returns : goal.returns
returns c = law
