use Rattle.tested_laws.proofs.Shifted.{shifted}
use Rattle.tested_laws.proofs.shifted_command.Goals as goal

pub returns : goal.returns
returns c = shifted
