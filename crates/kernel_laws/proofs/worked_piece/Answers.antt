use Rattle.kernel_laws.proofs.Worked.{worked as law}
use Rattle.kernel_laws.proofs.worked_piece.Goals as goal

pub returns : goal.returns
returns c = law
