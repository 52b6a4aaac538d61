use Rattle.std.proofs.Common.{◌≡◌, length}
use Rattle.c_judge.specs.Signature.{extents_of}
use Rattle.source_limits.proofs.judge.extents_of.Given as goal

abbrev pub invariant-arrays : goal.invariant-arrays
invariant-arrays l = extents_of l.arrays l.name ≡ extents_of l.initial.arrays l.name

abbrev pub decreases-arrays : goal.decreases-arrays
decreases-arrays l = length l.arrays
