use Rattle.std.proofs.Common.{◌≡◌, drop}
use Rattle.std.specs.List.{list_all}
use Rattle.loop_scan.specs.Choices.{same_claims}
use Rattle.loop_scan.proofs.sides.are_alike.Given as goal

abbrev pub invariant-loop-other : goal.invariant-loop-other
invariant-loop-other l = list_all (same_claims l.first) (drop l.other-index l.others) ≡ list_all (same_claims l.first) l.others
