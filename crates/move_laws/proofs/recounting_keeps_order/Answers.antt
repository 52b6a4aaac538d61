use Rattle.move_laws.proofs.Recounting.{recounting as law}
use Rattle.move_laws.proofs.recounting_keeps_order.Goals as goal

pub returns : goal.returns
returns c = law
