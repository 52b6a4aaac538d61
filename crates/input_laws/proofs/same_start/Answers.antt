use Rattle.input_laws.proofs.Starts.{starts}
use Rattle.input_laws.proofs.same_start.Goals as goal

pub returns : goal.returns
returns c = starts
