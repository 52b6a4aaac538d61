use Rattle.order_laws.proofs.Staying.{left_instances_stay}
use Rattle.order_laws.proofs.left_stay.Goals as goal

pub returns : goal.returns
returns c = left_instances_stay
