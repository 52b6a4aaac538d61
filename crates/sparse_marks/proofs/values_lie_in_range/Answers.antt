use Rattle.std.proofs.Common.{refl}
use Rattle.sparse_marks.proofs.Laws.{in_range as law}
use Rattle.sparse_marks.proofs.values_lie_in_range.Goals as goal

pub returns : goal.returns
returns c = record { law = law; least = refl; greatest = refl; between = refl }
