use Rattle.worked_laws.proofs.Levels.{worked_levels as law}
use Rattle.worked_laws.proofs.commands.worked_levels.Goals as goal

pub returns : goal.returns
returns c = law
