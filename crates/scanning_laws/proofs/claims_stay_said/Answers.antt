use Rattle.scanning_laws.proofs.Valued.{claims_steady as law}
use Rattle.scanning_laws.proofs.claims_stay_said.Goals as goal

pub returns : goal.returns
returns c = law
