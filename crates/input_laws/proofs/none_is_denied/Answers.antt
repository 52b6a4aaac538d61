use Rattle.input_laws.proofs.Bytes.{none_is_denied}
use Rattle.input_laws.proofs.none_is_denied.Goals as goal

pub returns : goal.returns
returns c = none_is_denied
