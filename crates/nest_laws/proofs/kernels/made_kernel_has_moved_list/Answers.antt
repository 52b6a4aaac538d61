use Rattle.nest_laws.proofs.Laws.{made_list as law}
use Rattle.nest_laws.proofs.kernels.made_kernel_has_moved_list.Goals as goal

pub returns : goal.returns
returns c = law
