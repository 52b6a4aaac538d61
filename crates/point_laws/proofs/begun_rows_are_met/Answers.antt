use Rattle.point_laws.proofs.Begun.{begun_met}
use Rattle.point_laws.proofs.begun_rows_are_met.Goals as goal

pub returns : goal.returns
returns c = begun_met
