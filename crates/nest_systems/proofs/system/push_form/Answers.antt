use Rattle.nest_systems.proofs.Extending.{pushed-answer}
use Rattle.nest_systems.specs.Begun.{at_least_zero}
use Rattle.nest_systems.proofs.system.push_form.Goals as goal

pub returns-clause-rows : goal.returns-clause-rows
returns-clause-rows c = pushed-answer c.push.result c.args.system.now c.push.new.self (at_least_zero c.args.form) c.push.ensures.answer
