use Rattle.std.proofs.Common.{refl}
use Rattle.sparse_layouts.proofs.Rows.{hold as law}
use Rattle.sparse_layouts.proofs.rows_hold_the_matrix.Goals as goal

pub returns : goal.returns
returns c = record { law = law; values = refl; columns = refl; sum = refl }
