use Rattle.asked_laws.proofs.Ranges.{ranges_readable as law}
use Rattle.asked_laws.proofs.ranges_can_be_read.Goals as goal

pub returns : goal.returns
returns c = law
