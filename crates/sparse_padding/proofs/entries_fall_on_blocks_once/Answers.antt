use Rattle.std.proofs.Common.{refl}
use Rattle.sparse_padding.proofs.Falls.{fall_on_blocks as law}
use Rattle.sparse_padding.proofs.entries_fall_on_blocks_once.Goals as goal

pub returns : goal.returns
returns c = record { law = law; case = refl; other = refl }
