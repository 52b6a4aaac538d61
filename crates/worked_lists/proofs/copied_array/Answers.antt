use Rattle.worked_lists.proofs.Computed.{array as law}
use Rattle.worked_lists.proofs.copied_array.Goals as goal

pub returns : goal.returns
returns c = law
