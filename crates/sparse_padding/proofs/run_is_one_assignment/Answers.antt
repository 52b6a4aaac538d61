use Rattle.std.proofs.Common.{refl}
use Rattle.sparse_padding.proofs.Sums.{run_is_one as law}
use Rattle.sparse_padding.proofs.Examples.{are_numbers}
use Rattle.sparse_padding.proofs.run_is_one_assignment.Goals as goal

pub returns : goal.returns
returns c = record { law = law; run = refl; one = refl; numbers = are_numbers }
