use Rattle.scan_laws.proofs.Bounds.{direct_rows as law}
use Rattle.scan_laws.proofs.scans.direct_rows_are_bounds.Goals as goal

pub returns : goal.returns
returns c = law
