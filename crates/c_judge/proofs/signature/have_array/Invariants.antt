use Rattle.std.proofs.Common.{◌≡◌, length}
use Rattle.c_judge.specs.Signature.{have_array}
use Rattle.c_judge.proofs.signature.have_array.Given as goal

abbrev pub invariant-matrices : goal.invariant-matrices
invariant-matrices l = have_array l.matrices l.name ≡ have_array l.initial.matrices l.name

abbrev pub decreases-matrices : goal.decreases-matrices
decreases-matrices l = length l.matrices
