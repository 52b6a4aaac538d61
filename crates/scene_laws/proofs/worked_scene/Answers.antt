use Rattle.scene_laws.proofs.Examples.{worked_scene as law}
use Rattle.scene_laws.proofs.worked_scene.Goals as goal

pub returns : goal.returns
returns c = law
