use Rattle.input_laws.proofs.Leaving.{same_effect}
use Rattle.input_laws.proofs.same_effect_same_text.Goals as goal

pub returns : goal.returns
returns c = same_effect
