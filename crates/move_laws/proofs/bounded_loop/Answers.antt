use Rattle.move_laws.proofs.Worked.{bounded_loop as law}
use Rattle.move_laws.proofs.bounded_loop.Goals as goal

pub returns : goal.returns
returns c = law
