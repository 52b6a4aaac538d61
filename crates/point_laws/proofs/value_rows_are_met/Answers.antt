use Rattle.point_laws.proofs.Values.{values_met}
use Rattle.point_laws.proofs.value_rows_are_met.Goals as goal

pub returns : goal.returns
returns c = values_met
