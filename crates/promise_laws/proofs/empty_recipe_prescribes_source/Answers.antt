use Rattle.promise_laws.proofs.Prescribed.{empty as law}
use Rattle.promise_laws.proofs.empty_recipe_prescribes_source.Goals as goal

pub returns : goal.returns
returns c = law
