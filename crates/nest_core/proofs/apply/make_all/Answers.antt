use Rattle.nest_core.proofs.Nests.{nests-none}
use Rattle.nest_core.proofs.apply.make_all.Goals as goal

pub loop-i-init : goal.loop-i-init
loop-i-init c = rw c.new-new.ensures (nests-none _ _ _ c.requires.nests c.requires.pieces)
