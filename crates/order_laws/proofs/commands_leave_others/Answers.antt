use Rattle.order_laws.proofs.Commands.{commands_leave}
use Rattle.order_laws.proofs.commands_leave_others.Goals as goal

pub returns : goal.returns
returns c = commands_leave
