use Rattle.acceptance_laws.proofs.Rows.{bounds_values as law}
use Rattle.acceptance_laws.proofs.bounds_have_values.Goals as goal

pub returns : goal.returns
returns c = law
