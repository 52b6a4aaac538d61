use Rattle.scene_laws.proofs.Laws.{is_scene as law}
use Rattle.scene_laws.proofs.valid_input_is_scene.Goals as goal

pub returns : goal.returns
returns c = law
