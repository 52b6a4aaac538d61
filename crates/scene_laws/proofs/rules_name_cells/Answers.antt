use Rattle.scene_laws.proofs.Laws.{name_cells as law}
use Rattle.scene_laws.proofs.rules_name_cells.Goals as goal

pub returns : goal.returns
returns c = law
