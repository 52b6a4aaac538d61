use Rattle.std.proofs.Common.{refl}
use Rattle.sparse_layouts.proofs.Laying.{holds_sums as law}
use Rattle.sparse_layouts.proofs.layouts_hold_sums.Goals as goal

pub returns : goal.returns
returns c = record { law = law; case = refl }
