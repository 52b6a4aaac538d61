use Rattle.point_laws.proofs.Alike.{equal_forms}
use Rattle.point_laws.proofs.equal_forms_have_one_value.Goals as goal

pub returns : goal.returns
returns c = equal_forms
