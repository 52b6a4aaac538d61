use Rattle.nest_laws.proofs.Laws.{shift_law as law}
use Rattle.nest_laws.proofs.commands.shift_is_one_to_one.Goals as goal

pub returns : goal.returns
returns c = law
