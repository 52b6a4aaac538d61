use Rattle.point_laws.proofs.Placed.{placed_met}
use Rattle.point_laws.proofs.placed_rows_are_met.Goals as goal

pub returns : goal.returns
returns c = placed_met
