use Rattle.datacopy.proofs.Widths.{judged_length}
use Rattle.datacopy.proofs.side.fixed.Goals as goal

pub returns-in-Ok : goal.returns-in-Ok
returns-in-Ok c = judged_length _ _ c.in-Ok.ensures
