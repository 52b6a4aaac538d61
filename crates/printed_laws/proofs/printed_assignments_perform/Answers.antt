use Rattle.printed_laws.proofs.Sides.{assignments_perform as law}
use Rattle.printed_laws.proofs.printed_assignments_perform.Goals as goal

pub returns : goal.returns
returns c = law
