use Rattle.input_laws.proofs.Rows.{unbroken}
use Rattle.input_laws.proofs.unbroken_is_csr.Goals as goal

pub returns : goal.returns
returns c = unbroken
