use Rattle.scanning_laws.proofs.Opening.{opened_is as law}
use Rattle.scanning_laws.proofs.opened_loops_are_made.Goals as goal

pub returns : goal.returns
returns c = law
