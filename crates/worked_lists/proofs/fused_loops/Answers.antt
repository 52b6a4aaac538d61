use Rattle.worked_lists.proofs.Computed.{fused as law}
use Rattle.worked_lists.proofs.fused_loops.Goals as goal

pub returns : goal.returns
returns c = law
