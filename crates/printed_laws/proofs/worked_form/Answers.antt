use Rattle.printed_laws.proofs.Examples.{worked_form as law}
use Rattle.printed_laws.proofs.worked_form.Goals as goal

pub returns : goal.returns
returns c = law
