use Rattle.std.proofs.Common.{◌≡◌, drop}
use Rattle.std.specs.List.{list_all}
use Rattle.scan_forms.specs.Bounds.{same_bounds}
use Rattle.loop_scan.proofs.sides.have_same_bounds.Given as goal

abbrev pub invariant-loop-other : goal.invariant-loop-other
invariant-loop-other l = list_all (λ t. same_bounds t.bounds l.first.bounds) (drop l.other-index l.others) ≡ list_all (λ t. same_bounds t.bounds l.first.bounds) l.others
