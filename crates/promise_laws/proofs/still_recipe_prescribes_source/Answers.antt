use Rattle.promise_laws.proofs.Prescribed.{still_recipe as law}
use Rattle.promise_laws.proofs.still_recipe_prescribes_source.Goals as goal

pub returns : goal.returns
returns c = law
