use Rattle.input_laws.proofs.Entries.{worked_matrix}
use Rattle.input_laws.proofs.worked_matrix.Goals as goal

pub returns : goal.returns
returns c = worked_matrix
