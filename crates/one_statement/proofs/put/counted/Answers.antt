use Rattle.one_statement.proofs.Putting.{one-positions}
use Rattle.one_statement.proofs.put.counted.Goals as goal

pub number-requires : goal.number-requires
number-requires c = rw c.in_ok-new.ensures (one-positions c.args.head.now c.args.nests.now c.args.statement c.args.nest c.requires.nests c.requires.nest)
