use Rattle.std.proofs.Common.{◌≡◌, length}
use Rattle.c_judge.specs.Signature.{is_declared}
use Rattle.c_judge.proofs.signature.is_declared.Given as goal

abbrev pub invariant-arrays : goal.invariant-arrays
invariant-arrays l = is_declared l.arrays l.name ≡ is_declared l.initial.arrays l.name

abbrev pub decreases-arrays : goal.decreases-arrays
decreases-arrays l = length l.arrays
