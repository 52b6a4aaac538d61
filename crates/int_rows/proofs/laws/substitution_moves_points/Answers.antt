use Rattle.int_rows.proofs.Following.{substitution_moves}
use Rattle.int_rows.proofs.laws.substitution_moves_points.Goals as goal

pub returns : goal.returns
returns c = substitution_moves
