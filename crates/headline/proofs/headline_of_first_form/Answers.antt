use Rattle.headline.proofs.Whole.{first_form_performs}
use Rattle.headline.proofs.headline_of_first_form.Goals as goal

pub returns : goal.returns
returns c = first_form_performs
