use Rattle.nest_laws.proofs.Laws.{skew_law as law}
use Rattle.nest_laws.proofs.commands.skew_is_one_to_one.Goals as goal

pub returns : goal.returns
returns c = law
