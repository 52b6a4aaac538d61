use Rattle.nest_laws.proofs.Laws.{members as law}
use Rattle.nest_laws.proofs.order.members_tell_sorted_list.Goals as goal

pub returns : goal.returns
returns c = law
