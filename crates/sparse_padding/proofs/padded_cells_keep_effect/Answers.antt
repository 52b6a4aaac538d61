use Rattle.std.proofs.Common.{refl}
use Rattle.sparse_padding.proofs.Bodies.{cells_keep as law}
use Rattle.sparse_padding.proofs.padded_cells_keep_effect.Goals as goal

pub returns : goal.returns
returns c = record { law = law; count = refl; case = refl; reading = refl; their_sum = refl }
