use Rattle.scene_laws.proofs.Laws.{fine_on_inputs as law}
use Rattle.scene_laws.proofs.accepted_is_fine_on_inputs.Goals as goal

pub returns : goal.returns
returns c = law
