use Rattle.worked_lists.proofs.Computed.{stencil as law}
use Rattle.worked_lists.proofs.skewed_stencil.Goals as goal

pub returns : goal.returns
returns c = law
