use Rattle.std.proofs.Common.{refl}
use Rattle.sparse_marks.specs.Examples.{three_by_four}
use Rattle.sparse_padding.proofs.PaddedCells.{blocks_keep as law}
use Rattle.sparse_padding.proofs.Spmv.{blocks_numbers, blocks_held, blocks_over, unread as is_unread}
use Rattle.sparse_padding.proofs.padded_blocks_keep_effect.Goals as goal

pub returns : goal.returns
returns c = record { law = law; numbers = blocks_numbers; over = blocks_over; unread = is_unread three_by_four; held = blocks_held; count = refl; first = refl; last = refl; case = refl; empty = refl }
