use Rattle.nest_laws.proofs.Tested.{tested_effect as law}
use Rattle.nest_laws.proofs.dependence.tested_command_keeps_effect.Goals as goal

pub returns : goal.returns
returns c = law
