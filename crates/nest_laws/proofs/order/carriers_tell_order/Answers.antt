use Rattle.nest_laws.proofs.Laws.{carriers as law}
use Rattle.nest_laws.proofs.order.carriers_tell_order.Goals as goal

pub returns : goal.returns
returns c = law
