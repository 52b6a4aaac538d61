use Rattle.input_laws.proofs.Starts.{extents_valid}
use Rattle.input_laws.proofs.extents_are_valid.Goals as goal

pub returns : goal.returns
returns c = extents_valid
