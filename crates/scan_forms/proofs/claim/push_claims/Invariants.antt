use Rattle.std.proofs.Common.{◌≡◌, ◌++◌, take}
use Rattle.scan_forms.proofs.claim.push_claims.Given as goal

abbrev pub invariant-loop-claim : goal.invariant-loop-claim
invariant-loop-claim l = l.to ≡ l.initial.to ++ take l.claim-index l.claims
