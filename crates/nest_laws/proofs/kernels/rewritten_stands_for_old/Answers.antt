use Rattle.nest_laws.proofs.Laws.{rewritten as law}
use Rattle.nest_laws.proofs.kernels.rewritten_stands_for_old.Goals as goal

pub returns : goal.returns
returns c = law
