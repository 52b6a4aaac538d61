use Rattle.nest_laws.proofs.Laws.{fitting as law}
use Rattle.nest_laws.proofs.kernels.fitting_piece_makes.Goals as goal

pub returns : goal.returns
returns c = law
