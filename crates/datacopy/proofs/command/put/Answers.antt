use Rattle.datacopy.proofs.Entered.{entered-shaped}
use Rattle.datacopy.proofs.command.put.Goals as goal

pub returns-clause-shaped : goal.returns-clause-shaped
returns-clause-shaped c = entered-shaped c.args.kernel.now _ c.args.copy c.args.extents c.args.nests c.in_ok-enter.ensures.entered c.requires.shaped c.requires.statements c.requires.nests
