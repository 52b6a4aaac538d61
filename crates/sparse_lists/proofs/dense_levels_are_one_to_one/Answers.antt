use Rattle.std.proofs.Common.{refl}
use Rattle.sparse_lists.proofs.Levels.{dense as law}
use Rattle.sparse_lists.proofs.dense_levels_are_one_to_one.Goals as goal

pub returns : goal.returns
returns c = record { law = law; case = refl }
