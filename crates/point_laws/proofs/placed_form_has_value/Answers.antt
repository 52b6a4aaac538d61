use Rattle.point_laws.proofs.Placed.{placed_value}
use Rattle.point_laws.proofs.placed_form_has_value.Goals as goal

pub returns : goal.returns
returns c = placed_value
