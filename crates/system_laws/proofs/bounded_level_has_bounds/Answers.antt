use Rattle.system_laws.proofs.Bounds.{has_bounds as law}
use Rattle.system_laws.proofs.bounded_level_has_bounds.Goals as goal

pub returns : goal.returns
returns c = law
