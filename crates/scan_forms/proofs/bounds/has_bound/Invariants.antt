use Rattle.std.proofs.Common.{◌≡◌, drop}
use Rattle.scan_forms.specs.Bounds.{has_bound}
use Rattle.scan_forms.proofs.bounds.has_bound.Given as goal

abbrev pub invariant-loop-other : goal.invariant-loop-other
invariant-loop-other l = has_bound (drop l.other-index l.bounds) l.bound ≡ has_bound l.bounds l.bound
