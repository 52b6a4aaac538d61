use Rattle.input_laws.proofs.Leaving.{one_text}
use Rattle.input_laws.proofs.one_text.Goals as goal

pub returns : goal.returns
returns c = one_text
