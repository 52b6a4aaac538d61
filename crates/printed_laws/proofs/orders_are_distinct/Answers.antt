use Rattle.printed_laws.proofs.Orders.{orders_distinct as law}
use Rattle.printed_laws.proofs.orders_are_distinct.Goals as goal

pub returns : goal.returns
returns c = law
