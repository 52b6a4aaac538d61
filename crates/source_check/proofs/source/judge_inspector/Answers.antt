use Rattle.std.proofs.Common.{arith}
use Rattle.source_limits.proofs.Ruled.{no_statement}
use Rattle.source_check.proofs.source.judge_inspector.Goals as goal

pub returns : goal.returns
returns c = no_statement c.args.inspector.now c.count_statements-count.result c.count_statements-count.ensures (omega arith)
