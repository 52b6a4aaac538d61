use Rattle.std.proofs.Common.{refl}
use Rattle.sparse_layouts.proofs.worked_rows.Goals as goal

pub returns : goal.returns
returns c = record { between = refl; between_columns = refl; none = refl; repeated = refl; repeated_columns = refl }
