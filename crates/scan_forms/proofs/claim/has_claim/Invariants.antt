use Rattle.std.proofs.Common.{◌≡◌, drop}
use Rattle.scan_forms.specs.Forms.{has_claim}
use Rattle.scan_forms.proofs.claim.has_claim.Given as goal

abbrev pub invariant-loop-other : goal.invariant-loop-other
invariant-loop-other l = has_claim (drop l.other-index l.claims) l.claim ≡ has_claim l.claims l.claim
