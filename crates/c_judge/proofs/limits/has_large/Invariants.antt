use Rattle.std.proofs.Common.{◌≡◌, length}
use Rattle.c_judge.specs.Limits.{has_large}
use Rattle.c_judge.proofs.limits.has_large.Given as goal

abbrev pub invariant-extents : goal.invariant-extents
invariant-extents l = has_large l.extents ≡ has_large l.initial.extents

abbrev pub decreases-extents : goal.decreases-extents
decreases-extents l = length l.extents
