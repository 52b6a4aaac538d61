use Rattle.std.proofs.Common.{refl}
use Rattle.sparse_layouts.proofs.Rows.{stay as law}
use Rattle.sparse_layouts.proofs.Examples.{valid}
use Rattle.sparse_layouts.proofs.columns_stay_inside.Goals as goal

pub returns : goal.returns
returns c = record { law = law; valid = valid; case = refl }
