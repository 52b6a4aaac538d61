use Rattle.scene_laws.proofs.Ranged.{is_ranged}
use Rattle.scene_laws.proofs.valid_input_is_ranged.Goals as goal

pub returns : goal.returns
returns c = is_ranged
