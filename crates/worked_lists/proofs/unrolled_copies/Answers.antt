use Rattle.worked_lists.proofs.Computed.{copies as law}
use Rattle.worked_lists.proofs.unrolled_copies.Goals as goal

pub returns : goal.returns
returns c = law
