use Rattle.unroll.proofs.Pairing.{paired-none, paired-more}
use Rattle.unroll.proofs.roles.all_agree.Goals as goal

pub loop-i-init : goal.loop-i-init
loop-i-init c = paired-none _ _ _ _ c.requires.nests c.requires.roles

pub loop-i-preserved : goal.loop-i-preserved
loop-i-preserved c = paired-more _ _ _ _ c.loop-i.i c.index-nests-i.result c.index-roles-i.result c.loop-i-test.true c.index-nests-i.is c.index-roles-i.is c.loop-i.invariant
