use Rattle.worked_laws.proofs.Places.{two_statements as law}
use Rattle.worked_laws.proofs.order.order_of_two_statements.Goals as goal

pub returns : goal.returns
returns c = law
