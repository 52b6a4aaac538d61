use Rattle.printed_laws.proofs.Orders.{worked_order as law}
use Rattle.printed_laws.proofs.worked_order.Goals as goal

pub returns : goal.returns
returns c = law
