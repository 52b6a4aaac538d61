use Rattle.scene_laws.proofs.Rules.{scope_names as law}
use Rattle.scene_laws.proofs.rules_scope_names.Goals as goal

pub returns : goal.returns
returns c = law
