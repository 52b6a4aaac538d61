use Rattle.std.proofs.Common.{ap}
use Rattle.nest_core.specs.Chains.{leaf_body}
use Rattle.nest_core.proofs.Bodies.{made-Const, at_ok, at_err, over-At}
use Rattle.one_statement.proofs.replace.make_leaf.Goals as goal

pub make_access-requires-clause-access : goal.make_access-requires-clause-access
make_access-requires-clause-access c = over-At _ _ _ (ap leaf_body c.in-Cell.is) c.requires.leaf

pub returns-in_err-make_access-in-Cell : goal.returns-in_err-make_access-in-Cell
returns-in_err-make_access-in-Cell c = at_err _ _ _ _ _ (ap leaf_body c.in-Cell.is) c.from_residual.ensures c.in_err-make_access-in-Cell.ensures

pub returns-in-Number : goal.returns-in-Number
returns-in-Number c = made-Const _ _ _ (ap leaf_body c.in-Number.is)

pub returns-in_ok-make_access-in-Cell : goal.returns-in_ok-make_access-in-Cell
returns-in_ok-make_access-in-Cell c = at_ok _ _ _ _ (ap leaf_body c.in-Cell.is) c.in_ok-make_access-in-Cell.ensures
