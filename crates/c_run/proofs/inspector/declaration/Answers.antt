use Rattle.c_run.proofs.Declarations.{none-For, none-If, none-Assign, none-Put, some-Declare, none-Grow}
use Rattle.c_run.proofs.inspector.declaration.Goals as goal

pub returns-in-Declare : goal.returns-in-Declare
returns-in-Declare c = some-Declare c.args.statement.now _ _ _ c.in-Declare.is

pub returns-in-For : goal.returns-in-For
returns-in-For c = none-For c.args.statement.now _ _ _ _ c.in-For.is

pub returns-in-If : goal.returns-in-If
returns-in-If c = none-If c.args.statement.now _ _ c.in-If.is

pub returns-in-Assign : goal.returns-in-Assign
returns-in-Assign c = none-Assign c.args.statement.now _ _ _ c.in-Assign.is

pub returns-in-Put : goal.returns-in-Put
returns-in-Put c = none-Put c.args.statement.now _ _ c.in-Put.is

pub returns-in-Grow : goal.returns-in-Grow
returns-in-Grow c = none-Grow c.args.statement.now _ _ c.in-Grow.is
