use Rattle.std.proofs.Common.{refl}
use Rattle.sparse_lists.proofs.Levels.{compacted as law}
use Rattle.sparse_lists.proofs.compacted_levels_are_one_to_one.Goals as goal

pub returns : goal.returns
returns c = record { law = law; first = refl; second = refl }
