use Rattle.worked_laws.proofs.Places.{sorted_list as law}
use Rattle.worked_laws.proofs.order.one_sorted_list.Goals as goal

pub returns : goal.returns
returns c = law
