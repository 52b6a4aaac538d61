use Rattle.worked_lists.proofs.Computed.{triangle as law}
use Rattle.worked_lists.proofs.permuted_triangle.Goals as goal

pub returns : goal.returns
returns c = law
