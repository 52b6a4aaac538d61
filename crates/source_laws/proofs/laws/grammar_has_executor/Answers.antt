use Rattle.source_laws.proofs.Executors.{program-executor}
use Rattle.source_laws.proofs.laws.grammar_has_executor.Goals as goal

pub returns : goal.returns
returns c = program-executor
