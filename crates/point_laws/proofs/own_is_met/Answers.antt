use Rattle.point_laws.proofs.Own.{own_met}
use Rattle.point_laws.proofs.own_is_met.Goals as goal

pub returns : goal.returns
returns c = own_met
