use Rattle.std.proofs.Common.{◌≡◌, ◌+◌, length}
use Rattle.c_judge.specs.Limits.{large_extent}
use Rattle.c_judge.proofs.limits.large_extent.Given as goal

abbrev pub invariant-arrays : goal.invariant-arrays
invariant-arrays l = record {
  counted : l.number + length l.arrays ≡ length l.initial.arrays;
  same : large_extent l.number l.arrays ≡ large_extent 0 l.initial.arrays;
}

abbrev pub decreases-arrays : goal.decreases-arrays
decreases-arrays l = length l.arrays
