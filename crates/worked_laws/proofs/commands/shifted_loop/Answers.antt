use Rattle.worked_laws.proofs.Shift.{shifted_loop as law}
use Rattle.worked_laws.proofs.commands.shifted_loop.Goals as goal

pub returns : goal.returns
returns c = law
