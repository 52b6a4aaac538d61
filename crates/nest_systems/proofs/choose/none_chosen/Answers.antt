use Rattle.std.proofs.Common.{refl}
use Rattle.nest_systems.proofs.Choosing.{none-kept}
use Rattle.nest_systems.proofs.choose.none_chosen.Goals as goal

pub returns-clause-shape : goal.returns-clause-shape
returns-clause-shape c = none-kept _ _ _ c.requires.room refl c.new.ensures c.new-2.ensures c.in_ok-unmet.ensures
