use Rattle.point_laws.proofs.Readings.{no_counts}
use Rattle.point_laws.proofs.nothing_made_has_no_counts.Goals as goal

pub returns : goal.returns
returns c = no_counts
