use Rattle.nest_laws.proofs.Laws.{places as law}
use Rattle.nest_laws.proofs.order.places_have_an_order.Goals as goal

pub returns : goal.returns
returns c = law
