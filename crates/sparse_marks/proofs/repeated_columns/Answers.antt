use Rattle.std.proofs.Common.{refl}
use Rattle.sparse_marks.proofs.repeated_columns.Goals as goal

pub returns : goal.returns
returns c = record { sum = refl; other = refl; blocks = refl; block_values = refl; diagonals = refl; diagonal_values = refl }
