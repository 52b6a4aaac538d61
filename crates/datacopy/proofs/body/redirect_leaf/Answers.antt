use Rattle.std.proofs.Common.{ap, ◌∙◌}
use Rattle.nest_core.specs.Chains.{leaf_body}
use Rattle.nest_core.proofs.Bodies.{over-At, over_is-At}
use Rattle.datacopy.proofs.Reading.{reads-At}
use Rattle.datacopy.proofs.body.redirect_leaf.Goals as goal

pub redirected-requires-clause-width : goal.redirected-requires-clause-width
redirected-requires-clause-width c = over-At _ _ _ (ap leaf_body c.in-Cell.is) c.requires.width

pub redirected-requires-clause-dims : goal.redirected-requires-clause-dims
redirected-requires-clause-dims c = rw (reads-At _ _ _ (ap leaf_body c.in-Cell.is)) at c.requires.dims

pub returns-in_ok-redirected-in-Cell : goal.returns-in_ok-redirected-in-Cell
returns-in_ok-redirected-in-Cell c = over_is-At _ _ ∙ c.in_ok-redirected-in-Cell.ensures
