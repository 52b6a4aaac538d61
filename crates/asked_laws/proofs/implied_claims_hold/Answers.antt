use Rattle.asked_laws.proofs.Asked.{implied_claims_hold as law}
use Rattle.asked_laws.proofs.implied_claims_hold.Goals as goal

pub returns : goal.returns
returns c = law
