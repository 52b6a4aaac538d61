use Rattle.acceptance_laws.proofs.Formed.{form_value as law}
use Rattle.acceptance_laws.proofs.form_has_value.Goals as goal

pub returns : goal.returns
returns c = law
