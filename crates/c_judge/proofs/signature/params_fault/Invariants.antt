use Rattle.std.proofs.Common.{◌≡◌, [], take, drop}
use Rattle.c_judge.specs.Signature.{params_from}
use Rattle.c_judge.proofs.signature.params_fault.Given as goal

abbrev pub invariant-loop-i : goal.invariant-loop-i
invariant-loop-i l = params_from (take l.i l.params) (drop l.i l.params) ≡ params_from [] l.params
