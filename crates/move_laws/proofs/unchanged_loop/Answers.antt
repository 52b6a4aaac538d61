use Rattle.move_laws.proofs.Worked.{unchanged_loop as law}
use Rattle.move_laws.proofs.unchanged_loop.Goals as goal

pub returns : goal.returns
returns c = law
