use Rattle.nest_laws.proofs.Laws.{one_each as law}
use Rattle.nest_laws.proofs.kernels.one_piece_each.Goals as goal

pub returns : goal.returns
returns c = law
