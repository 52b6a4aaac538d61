use Rattle.printed_laws.proofs.Bounds.{forms_have_values as law}
use Rattle.printed_laws.proofs.printed_forms_have_values.Goals as goal

pub returns : goal.returns
returns c = law
