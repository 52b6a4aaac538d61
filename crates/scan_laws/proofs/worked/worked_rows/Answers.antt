use Rattle.scan_laws.proofs.CopyLoop.{worked_rows as law}
use Rattle.scan_laws.proofs.worked.worked_rows.Goals as goal

pub returns : goal.returns
returns c = law
