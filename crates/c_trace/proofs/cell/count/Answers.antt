use Rattle.std.proofs.Common.{sym}
use Rattle.c_trace.proofs.Counts.{count-One, count-Two, count-Three}
use Rattle.c_trace.proofs.cell.count.Goals as goal

pub returns-in-One-clause-count : goal.returns-in-One-clause-count
returns-in-One-clause-count c = sym (count-One c.args.at.now _ c.in-One.is)

pub returns-in-Two-clause-count : goal.returns-in-Two-clause-count
returns-in-Two-clause-count c = sym (count-Two c.args.at.now _ _ c.in-Two.is)

pub returns-in-Three-clause-count : goal.returns-in-Three-clause-count
returns-in-Three-clause-count c = sym (count-Three c.args.at.now _ _ _ c.in-Three.is)
