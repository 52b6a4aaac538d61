use Rattle.sparse_lists.proofs.Relocating.{moved as law}
use Rattle.sparse_lists.proofs.Examples.{are_of, is_dense_list, moved_row}
use Rattle.sparse_lists.proofs.relocated_list_is_moved.Goals as goal

pub returns : goal.returns
returns c = record { law = law; items = are_of; list = is_dense_list; case = moved_row }
