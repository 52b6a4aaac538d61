use Rattle.std.proofs.Common.{refl}
use Rattle.sparse_lists.proofs.Positions.{one_to_one as law}
use Rattle.sparse_lists.proofs.positions_are_one_to_one.Goals as goal

pub returns : goal.returns
returns c = record { law = law; first = refl; second = refl }
