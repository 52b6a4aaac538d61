use Rattle.c_meaning.proofs.Effects.{same_effect}
use Rattle.c_meaning.proofs.laws.reordering_keeps_effect.Goals as goal

pub returns : goal.returns
returns c = λ old new s r. same_effect new old r s
