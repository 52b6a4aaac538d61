use Rattle.printed_laws.proofs.Heads.{heads_have_values as law}
use Rattle.printed_laws.proofs.printed_heads_have_values.Goals as goal

pub returns : goal.returns
returns c = law
