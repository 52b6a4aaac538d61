use Rattle.int_rows.proofs.Following.{no_point}
use Rattle.int_rows.proofs.laws.excluded_has_no_point.Goals as goal

pub returns : goal.returns
returns c = no_point
