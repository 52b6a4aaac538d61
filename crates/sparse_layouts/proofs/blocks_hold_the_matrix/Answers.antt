use Rattle.std.proofs.Common.{refl}
use Rattle.sparse_layouts.proofs.Falling.{of_blocks as law}
use Rattle.sparse_layouts.proofs.blocks_hold_the_matrix.Goals as goal

pub returns : goal.returns
returns c = record { law = law; case = refl; late = refl; empty = refl }
