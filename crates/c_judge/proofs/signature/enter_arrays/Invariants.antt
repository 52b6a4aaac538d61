use Rattle.std.proofs.Common.{◌≡◌, length}
use Rattle.c_judge.specs.Signature.{with_arrays}
use Rattle.c_judge.proofs.signature.enter_arrays.Given as goal

abbrev pub invariant-arrays : goal.invariant-arrays
invariant-arrays l = with_arrays l.scope l.arrays ≡ with_arrays l.initial.scope l.initial.arrays

abbrev pub decreases-arrays : goal.decreases-arrays
decreases-arrays l = length l.arrays
