use Rattle.std.proofs.Common.{refl, arith}
use Rattle.sparse_layouts.proofs.Extents.{rows_fit as law}
use Rattle.sparse_layouts.proofs.rows_fit_their_extents.Goals as goal

pub returns : goal.returns
returns c = record { law = law; extents = refl; inside = (omega arith, (omega arith, tt)); empty = refl }
