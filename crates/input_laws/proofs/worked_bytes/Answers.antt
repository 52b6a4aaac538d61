use Rattle.input_laws.proofs.CopiedBytes.{worked_bytes}
use Rattle.input_laws.proofs.worked_bytes.Goals as goal

pub returns : goal.returns
returns c = worked_bytes
