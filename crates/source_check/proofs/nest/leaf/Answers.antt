use Rattle.std.proofs.Common.{◌∙◌}
use Rattle.nest_core.proofs.Bodies.{over_is-Const, over_is-At}
use Rattle.source_check.proofs.nest.leaf.Goals as goal

pub returns-in-Number : goal.returns-in-Number
returns-in-Number c = over_is-Const _ _

pub returns-in_ok-access-in-Cell : goal.returns-in_ok-access-in-Cell
returns-in_ok-access-in-Cell c = over_is-At _ _ ∙ c.in_ok-access-in-Cell.ensures
