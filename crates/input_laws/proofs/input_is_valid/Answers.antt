use Rattle.input_laws.proofs.Matrices.{input_valid}
use Rattle.input_laws.proofs.input_is_valid.Goals as goal

pub returns : goal.returns
returns c = input_valid
