use Rattle.std.proofs.Common.{refl}
use Rattle.sparse_padding.proofs.PaddedCells.{diagonals_keep as law}
use Rattle.sparse_padding.proofs.Spmv.{diagonals_numbers, diagonals_held, diagonals_over}
use Rattle.sparse_padding.proofs.padded_diagonals_keep_effect.Goals as goal

pub returns : goal.returns
returns c = record { law = law; numbers = diagonals_numbers; over = diagonals_over; held = diagonals_held; count = refl; case = refl; repeated_count = refl; repeated = refl }
