use Rattle.std.proofs.Common.{◌≡◌, length}
use Rattle.source_limits.specs.Matrices.{is_index_array}
use Rattle.source_limits.proofs.reads.is_index_array.Given as goal

abbrev pub invariant-matrices : goal.invariant-matrices
invariant-matrices l = is_index_array l.matrices l.name ≡ is_index_array l.initial.matrices l.name

abbrev pub decreases-matrices : goal.decreases-matrices
decreases-matrices l = length l.matrices
