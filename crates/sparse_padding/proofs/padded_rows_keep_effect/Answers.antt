use Rattle.std.proofs.Common.{refl}
use Rattle.sparse_padding.proofs.Bodies.{rows_keep as law}
use Rattle.sparse_padding.proofs.Spmv.{rows_numbers, rows_held, rows_over}
use Rattle.sparse_padding.proofs.padded_rows_keep_effect.Goals as goal

pub returns : goal.returns
returns c = record { law = law; numbers = rows_numbers; over = rows_over; held = rows_held; count = refl; case = refl; second = refl; between = refl; repeated_count = refl; repeated = refl }
