use Rattle.input_laws.proofs.Bytes.{same_bytes}
use Rattle.input_laws.proofs.same_bytes.Goals as goal

pub returns : goal.returns
returns c = same_bytes
