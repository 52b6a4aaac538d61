use Rattle.std.proofs.Common.{◌≡◌, drop}
use Rattle.make_dense.specs.Bounds.{matrix_over}
use Rattle.make_dense.proofs.bounds.matrix_over.Given as goal

abbrev pub invariant-loop-matrix : goal.invariant-loop-matrix
invariant-loop-matrix l = matrix_over l.params l.before l.first l.terms l.low l.high (drop l.matrix-index l.matrices) ≡ matrix_over l.params l.before l.first l.terms l.low l.high l.matrices
