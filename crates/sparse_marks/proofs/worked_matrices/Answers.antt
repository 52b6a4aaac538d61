use Rattle.std.proofs.Common.{refl}
use Rattle.sparse_marks.proofs.worked_matrices.Goals as goal

pub returns : goal.returns
returns c = record { diagonals = refl; diagonal_values = refl; columns = refl; column_values = refl; late = refl; late_starts = refl; empty = refl; one_diagonal_group = refl }
