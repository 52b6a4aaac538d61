use Rattle.acceptance_laws.proofs.Rows.{rows_say as law}
use Rattle.acceptance_laws.proofs.rows_say_within.Goals as goal

pub returns : goal.returns
returns c = law
