use Rattle.printed_laws.proofs.Examples.{worked_rows as law}
use Rattle.printed_laws.proofs.worked_rows.Goals as goal

pub returns : goal.returns
returns c = law
