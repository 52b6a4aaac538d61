use Rattle.int_rows.proofs.Following.{scaled_point}
use Rattle.int_rows.proofs.laws.other_has_scaled_point.Goals as goal

pub returns : goal.returns
returns c = scaled_point
