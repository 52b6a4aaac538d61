use Rattle.nest_laws.proofs.Laws.{one_kernel_list as law}
use Rattle.nest_laws.proofs.order.kernel_has_one_list.Goals as goal

pub returns : goal.returns
returns c = law
