use Rattle.std.proofs.Common.{refl}
use Rattle.sparse_marks.proofs.Laws.{of_group as law}
use Rattle.sparse_marks.proofs.kept_values_are_of_their_group.Goals as goal

pub returns : goal.returns
returns c = record { law = law; case = refl; group = refl }
