use Rattle.input_laws.proofs.Examples.{worked_input}
use Rattle.input_laws.proofs.worked_input.Goals as goal

pub returns : goal.returns
returns c = worked_input
