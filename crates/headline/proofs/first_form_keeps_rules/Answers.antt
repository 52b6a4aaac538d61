use Rattle.headline.proofs.JudgedPrograms.{written_rules}
use Rattle.headline.proofs.first_form_keeps_rules.Goals as goal

pub returns : goal.returns
returns c = written_rules
