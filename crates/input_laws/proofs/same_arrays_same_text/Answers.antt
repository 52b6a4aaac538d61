use Rattle.input_laws.proofs.Texts.{same_text}
use Rattle.input_laws.proofs.same_arrays_same_text.Goals as goal

pub returns : goal.returns
returns c = same_text
