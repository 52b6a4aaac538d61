use Rattle.tested_laws.proofs.Tested.{are_tested}
use Rattle.tested_laws.proofs.moves_are_tested.Goals as goal

pub returns : goal.returns
returns c = are_tested
