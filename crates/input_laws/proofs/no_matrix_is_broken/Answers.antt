use Rattle.input_laws.proofs.Rows.{none_broken}
use Rattle.input_laws.proofs.no_matrix_is_broken.Goals as goal

pub returns : goal.returns
returns c = none_broken
