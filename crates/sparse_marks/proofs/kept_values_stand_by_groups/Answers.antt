use Rattle.std.proofs.Common.{refl}
use Rattle.sparse_marks.proofs.Laws.{by_groups as law}
use Rattle.sparse_marks.proofs.kept_values_stand_by_groups.Goals as goal

pub returns : goal.returns
returns c = record { law = law; starts = refl; values = refl }
