use Rattle.scanning_laws.proofs.Naming.{inner_first as law}
use Rattle.scanning_laws.proofs.named_is_inner_first.Goals as goal

pub returns : goal.returns
returns c = law
