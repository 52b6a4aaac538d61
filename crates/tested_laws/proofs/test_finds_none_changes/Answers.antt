use Rattle.tested_laws.proofs.Tested.{finds_none}
use Rattle.tested_laws.proofs.test_finds_none_changes.Goals as goal

pub returns : goal.returns
returns c = finds_none
