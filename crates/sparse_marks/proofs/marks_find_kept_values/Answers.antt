use Rattle.std.proofs.Common.{refl}
use Rattle.sparse_marks.proofs.Laws.{find as law}
use Rattle.sparse_marks.proofs.marks_find_kept_values.Goals as goal

pub returns : goal.returns
returns c = record { law = law; case = refl }
