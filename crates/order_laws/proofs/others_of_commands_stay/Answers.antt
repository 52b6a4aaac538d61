use Rattle.order_laws.proofs.Commands.{others_stay}
use Rattle.order_laws.proofs.others_of_commands_stay.Goals as goal

pub returns : goal.returns
returns c = others_stay
