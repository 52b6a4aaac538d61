use Rattle.std.proofs.Common.{◌≡◌, drop, fold}
use Rattle.scan_forms.specs.Bounds.{with_claim, bounds_of}
use Rattle.scan_forms.proofs.bounds.make_bounds.Given as goal

abbrev pub invariant-loop-claim : goal.invariant-loop-claim
invariant-loop-claim l = fold (with_claim l.level) l.bounds (drop l.claim-index l.claims) ≡ bounds_of l.level l.claims
