use Rattle.implied_laws.proofs.Implied.{implied_law as law}
use Rattle.implied_laws.proofs.implied_holds.Goals as goal

pub returns : goal.returns
returns c = law
