use Rattle.std.proofs.Common.{refl}
use Rattle.sparse_padding.proofs.Sums.{zero_is_nothing as law}
use Rattle.sparse_padding.proofs.zero_changes_nothing.Goals as goal

pub returns : goal.returns
returns c = record { law = law; added = refl; subtracted = refl }
