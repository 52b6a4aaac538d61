use Rattle.worked_lists.proofs.Computed.{box as law}
use Rattle.worked_lists.proofs.copied_box.Goals as goal

pub returns : goal.returns
returns c = law
