use Rattle.int_rows.proofs.Following.{implied_holds as holds}
use Rattle.int_rows.proofs.laws.implied_holds.Goals as goal

pub returns : goal.returns
returns c = holds
