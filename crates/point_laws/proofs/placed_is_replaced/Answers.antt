use Rattle.point_laws.proofs.Seated.{placed_replaced}
use Rattle.point_laws.proofs.placed_is_replaced.Goals as goal

pub returns : goal.returns
returns c = placed_replaced
