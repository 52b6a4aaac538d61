use Rattle.std.proofs.Common.{refl}
use Rattle.sparse_layouts.proofs.Widths.{of_longest as law}
use Rattle.sparse_layouts.proofs.width_is_of_longest_row.Goals as goal

pub returns : goal.returns
returns c = record { law = law; case = refl; one = refl; none = refl; repeated = refl }
