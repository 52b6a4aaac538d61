use Rattle.printed_laws.proofs.Examples.{worked_inner_row as law}
use Rattle.printed_laws.proofs.worked_inner_row.Goals as goal

pub returns : goal.returns
returns c = law
