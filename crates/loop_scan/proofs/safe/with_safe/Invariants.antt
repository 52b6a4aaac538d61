use Rattle.std.proofs.Common.{◌≡◌, take}
use Rattle.loop_scan.specs.Safety.{with_safe}
use Rattle.loop_scan.proofs.safe.with_safe.Given as goal

abbrev pub invariant-loop-claim : goal.invariant-loop-claim
invariant-loop-claim l = l.kept ≡ with_safe l.safe (take l.claim-index l.claims)
