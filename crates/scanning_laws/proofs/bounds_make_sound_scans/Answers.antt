use Rattle.scanning_laws.proofs.Bounded.{sound_bounds as law}
use Rattle.scanning_laws.proofs.bounds_make_sound_scans.Goals as goal

pub returns : goal.returns
returns c = law
