use Rattle.print_laws.proofs.Asked.{level as law}
use Rattle.print_laws.proofs.level_keeps_to_size.Goals as goal

pub returns : goal.returns
returns c = law
