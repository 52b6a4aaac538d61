use Rattle.int_rows.proofs.FirstLaw.{elimination_keeps_points as keeps_points}
use Rattle.int_rows.proofs.laws.elimination_keeps_points.Goals as goal

pub returns : goal.returns
returns c = keeps_points
