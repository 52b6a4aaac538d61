use Rattle.measured_run.specs.declared.making.TheConstants.{SOURCE}
use Rattle.measured_run.proofs.Recipe.{behind_recipe}
use Rattle.measured_run.proofs.making.emitted.Goals as goal

pub returns-clause-refused : goal.returns-clause-refused
returns-clause-refused c = behind_recipe SOURCE.now c.emit.result c.emit.ensures.refused
