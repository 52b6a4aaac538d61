use Rattle.candidate_laws.proofs.Membership.{by_membership}
use Rattle.candidate_laws.proofs.candidates_by_membership.Goals as goal

pub returns : goal.returns
returns c = by_membership
