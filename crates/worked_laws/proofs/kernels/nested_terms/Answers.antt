use Rattle.worked_laws.proofs.Terms.{nested as law}
use Rattle.worked_laws.proofs.kernels.nested_terms.Goals as goal

pub returns : goal.returns
returns c = law
