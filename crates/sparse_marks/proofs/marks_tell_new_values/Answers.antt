use Rattle.std.proofs.Common.{refl}
use Rattle.sparse_marks.proofs.Laws.{tell as law}
use Rattle.sparse_marks.proofs.Telling.{rising_by}
use Rattle.sparse_marks.proofs.marks_tell_new_values.Goals as goal

pub returns : goal.returns
returns c = record { law = law; rising = rising_by; case = refl }
