use Rattle.nest_laws.proofs.Weights.{small as law}
use Rattle.nest_laws.proofs.runs.small_expression_has_value.Goals as goal

pub returns : goal.returns
returns c = law
