use Rattle.printed_laws.proofs.Between.{between as law}
use Rattle.printed_laws.proofs.rows_hold_between_bounds.Goals as goal

pub returns : goal.returns
returns c = law
