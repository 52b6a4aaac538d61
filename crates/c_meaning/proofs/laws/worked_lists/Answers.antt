use Rattle.c_meaning.proofs.Examples.{copies, sums_change_places}
use Rattle.c_meaning.proofs.laws.worked_lists.Goals as goal

pub returns : goal.returns
returns c = record { copies = copies; sums = sums_change_places }
