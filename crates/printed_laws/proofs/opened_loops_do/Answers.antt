use Rattle.printed_laws.proofs.Opened.{opened_do as law}
use Rattle.printed_laws.proofs.opened_loops_do.Goals as goal

pub returns : goal.returns
returns c = law
