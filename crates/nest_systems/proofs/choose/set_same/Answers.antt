use Rattle.std.proofs.Common.{refl}
use Rattle.nest_systems.proofs.Choosing.{same-kept}
use Rattle.nest_systems.proofs.choose.set_same.Goals as goal

pub returns-clause-kept : goal.returns-clause-kept
returns-clause-kept c = same-kept _ _ c.args.chosen.now c.requires.chosen _ _ _ c.requires.one refl refl refl c.set.ensures
