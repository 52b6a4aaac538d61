use Rattle.std.proofs.Common.{refl}
use Rattle.sparse_lists.proofs.Positions.{tell_values as law}
use Rattle.sparse_lists.proofs.positions_tell_kept_values.Goals as goal

pub returns : goal.returns
returns c = record { law = law; case = refl; value = refl }
