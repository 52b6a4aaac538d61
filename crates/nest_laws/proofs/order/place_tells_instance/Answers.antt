use Rattle.nest_laws.proofs.Laws.{place_law as law}
use Rattle.nest_laws.proofs.order.place_tells_instance.Goals as goal

pub returns : goal.returns
returns c = law
