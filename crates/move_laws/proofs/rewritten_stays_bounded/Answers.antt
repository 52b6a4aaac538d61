use Rattle.move_laws.proofs.Bounded.{stays_bounded as law}
use Rattle.move_laws.proofs.rewritten_stays_bounded.Goals as goal

pub returns : goal.returns
returns c = law
