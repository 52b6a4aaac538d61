use Rattle.point_laws.proofs.Standing.{stood_for}
use Rattle.point_laws.proofs.terms_are_stood_for.Goals as goal

pub returns : goal.returns
returns c = stood_for
