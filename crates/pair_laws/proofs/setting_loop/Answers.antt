use Rattle.pair_laws.proofs.Worked.{setting_loop}
use Rattle.pair_laws.proofs.setting_loop.Goals as goal

pub returns : goal.returns
returns c = setting_loop
