use Rattle.measured_run.proofs.Recipe.{is_read}
use Rattle.measured_run.proofs.recipe_is_read.Goals as goal

pub returns : goal.returns
returns c = is_read
