use Rattle.point_laws.proofs.Worked.{sparse_system}
use Rattle.point_laws.proofs.sparse_system.Goals as goal

pub returns : goal.returns
returns c = sparse_system
