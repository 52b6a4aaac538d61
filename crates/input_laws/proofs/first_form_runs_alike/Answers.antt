use Rattle.input_laws.proofs.Alike.{alike}
use Rattle.input_laws.proofs.first_form_runs_alike.Goals as goal

pub returns : goal.returns
returns c = alike
