use Rattle.tested_laws.proofs.Tested.{keeps_effect_found}
use Rattle.tested_laws.proofs.test_finds_none_keeps_effect.Goals as goal

pub returns : goal.returns
returns c = keeps_effect_found
