use Rattle.tested_laws.proofs.Small.{small_ranges}
use Rattle.tested_laws.proofs.nothing_made_has_small_ranges.Goals as goal

pub returns : goal.returns
returns c = small_ranges
