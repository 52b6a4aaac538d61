use Rattle.nest_laws.proofs.Bounding.{bounds as law}
use Rattle.nest_laws.proofs.runs.direct_row_bounds_level.Goals as goal

pub returns : goal.returns
returns c = law
