use Rattle.acceptance_laws.proofs.Judged.{judged_inside as law}
use Rattle.acceptance_laws.proofs.judged_is_inside.Goals as goal

pub returns : goal.returns
returns c = law
