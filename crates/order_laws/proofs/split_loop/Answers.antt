use Rattle.order_laws.proofs.Worked.{split_loop}
use Rattle.order_laws.proofs.split_loop.Goals as goal

pub returns : goal.returns
returns c = split_loop
