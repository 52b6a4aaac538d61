use Rattle.std.proofs.Common.{◌≡◌, drop}
use Rattle.csr_data.specs.Matrices.{columns_broken}
use Rattle.csr_data.proofs.matrix.column_fault.Given as goal

abbrev pub invariant-loop-place : goal.invariant-loop-place
invariant-loop-place l = columns_broken l.cols (drop 1 l.index) l.place (drop l.place l.col) ≡ columns_broken l.cols (drop 1 l.index) 0 l.col
