use Rattle.unroll_laws.proofs.Unrolled.{one_to_one as law}
use Rattle.unroll_laws.proofs.laws.unrolled_statement_is_one_to_one.Goals as goal

pub returns : goal.returns
returns c = law
