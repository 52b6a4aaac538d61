use Rattle.scan_laws.proofs.Scanned.{sound_bounds as law}
use Rattle.scan_laws.proofs.scans.rows_make_sound_bounds.Goals as goal

pub returns : goal.returns
returns c = law
