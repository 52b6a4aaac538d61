use Rattle.input_laws.proofs.Starts.{numbers_valid}
use Rattle.input_laws.proofs.numbers_are_valid.Goals as goal

pub returns : goal.returns
returns c = numbers_valid
