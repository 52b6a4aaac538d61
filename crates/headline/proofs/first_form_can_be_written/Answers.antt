use Rattle.headline.proofs.FirstForm.{written_fits}
use Rattle.headline.proofs.first_form_can_be_written.Goals as goal

pub returns : goal.returns
returns c = written_fits
