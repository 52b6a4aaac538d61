use Rattle.std.proofs.Common.{refl}
use Rattle.sparse_padding.proofs.Falls.{fall_on_diagonals as law}
use Rattle.sparse_padding.proofs.entries_fall_on_diagonals_once.Goals as goal

pub returns : goal.returns
returns c = record { law = law; case = refl; other = refl }
