use Rattle.std.proofs.Common.{◌≡◌, ◌+◌, length}
use Rattle.c_judge.specs.Signature.{matrices_from}
use Rattle.c_judge.proofs.signature.matrices_fault.Given as goal

abbrev pub invariant-matrices : goal.invariant-matrices
invariant-matrices l = record {
  counted : l.number + length l.rest ≡ length l.matrices;
  same : matrices_from l.scope l.arrays l.matrices l.number l.rest ≡ matrices_from l.scope l.arrays l.matrices 0 l.matrices;
}

abbrev pub decreases-matrices : goal.decreases-matrices
decreases-matrices l = length l.rest
