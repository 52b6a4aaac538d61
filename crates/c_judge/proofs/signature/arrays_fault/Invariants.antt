use Rattle.std.proofs.Common.{◌≡◌, [], take, drop}
use Rattle.c_judge.specs.Signature.{arrays_from}
use Rattle.c_judge.proofs.signature.arrays_fault.Given as goal

abbrev pub invariant-loop-i : goal.invariant-loop-i
invariant-loop-i l = arrays_from l.scope l.params l.matrices (take l.i l.arrays) (drop l.i l.arrays) ≡ arrays_from l.scope l.params l.matrices [] l.arrays
