use Rattle.std.proofs.Common.{refl}
use Rattle.sparse_padding.proofs.Sums.{one_is_one as law}
use Rattle.sparse_padding.proofs.one_entry_is_one_assignment.Goals as goal

pub returns : goal.returns
returns c = record { law = law; one = refl; its_cell = refl; two = refl; their_sum = refl }
