use Rattle.nest_laws.proofs.Laws.{keeps_effect as law}
use Rattle.nest_laws.proofs.order.order_keeps_effect.Goals as goal

pub returns : goal.returns
returns c = law
