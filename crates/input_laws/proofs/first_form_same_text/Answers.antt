use Rattle.input_laws.proofs.Leaving.{first_form}
use Rattle.input_laws.proofs.first_form_same_text.Goals as goal

pub returns : goal.returns
returns c = first_form
