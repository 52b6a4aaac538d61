use Rattle.std.proofs.Common.{◌≡◌, drop}
use Rattle.nest_systems.specs.Ranges as spec
use Rattle.nest_systems.proofs.range.matrix_argument_span.Given as goal

abbrev pub invariant-loop-matrix : goal.invariant-loop-matrix
invariant-loop-matrix l = spec.matrix_argument_span l.params (drop l.matrix-index l.matrices) l.array ≡ spec.matrix_argument_span l.params l.matrices l.array
