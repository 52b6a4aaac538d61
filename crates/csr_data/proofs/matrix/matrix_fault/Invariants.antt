use Rattle.std.proofs.Common.{◌≡◌, drop}
use Rattle.csr_data.specs.Matrices.{matrices_fault}
use Rattle.csr_data.specs.Wanted.{given_of}
use Rattle.csr_data.proofs.matrix.matrix_fault.Given as goal

abbrev pub invariant-loop-number : goal.invariant-loop-number
invariant-loop-number l = matrices_fault l.number (given_of l.values) (drop l.number l.program.matrices) ≡ matrices_fault 0 (given_of l.values) l.program.matrices
