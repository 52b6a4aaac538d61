use Rattle.move_laws.proofs.Recounting.{numbering as law}
use Rattle.move_laws.proofs.numbering_keeps_order.Goals as goal

pub returns : goal.returns
returns c = law
