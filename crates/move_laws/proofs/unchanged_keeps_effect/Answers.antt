use Rattle.move_laws.proofs.Unchanged.{unchanged as law}
use Rattle.move_laws.proofs.unchanged_keeps_effect.Goals as goal

pub returns : goal.returns
returns c = law
