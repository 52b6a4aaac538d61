use Rattle.std.proofs.Common.{◌≡◌, drop}
use Rattle.datacopy.specs.Extents.{count_of}
use Rattle.datacopy.proofs.extents.count_of.Given as goal

abbrev pub invariant-loop-known : goal.invariant-loop-known
invariant-loop-known l = count_of (drop l.known-index l.extents) ≡ count_of l.extents
