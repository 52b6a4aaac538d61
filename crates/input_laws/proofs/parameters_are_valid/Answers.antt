use Rattle.input_laws.proofs.Starts.{parameters_valid}
use Rattle.input_laws.proofs.parameters_are_valid.Goals as goal

pub returns : goal.returns
returns c = parameters_valid
