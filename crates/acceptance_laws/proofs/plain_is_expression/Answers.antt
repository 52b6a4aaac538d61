use Rattle.acceptance_laws.proofs.Plain.{plain_back as law}
use Rattle.acceptance_laws.proofs.plain_is_expression.Goals as goal

pub returns : goal.returns
returns c = law
