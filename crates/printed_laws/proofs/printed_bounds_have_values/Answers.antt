use Rattle.printed_laws.proofs.Bounds.{bounds_have_values as law}
use Rattle.printed_laws.proofs.printed_bounds_have_values.Goals as goal

pub returns : goal.returns
returns c = law
