use Rattle.print_laws.proofs.Asked.{nested as law}
use Rattle.print_laws.proofs.nested_bounds_have_value.Goals as goal

pub returns : goal.returns
returns c = law
