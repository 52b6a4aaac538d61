use Rattle.nest_laws.proofs.Laws.{skew_order as law}
use Rattle.nest_laws.proofs.commands.skew_keeps_order.Goals as goal

pub returns : goal.returns
returns c = law
