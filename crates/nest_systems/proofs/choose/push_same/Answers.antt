use Rattle.std.proofs.Common.{refl}
use Rattle.nest_systems.proofs.Choosing.{more-same}
use Rattle.nest_systems.proofs.choose.push_same.Goals as goal

pub returns-clause-kept : goal.returns-clause-kept
returns-clause-kept c = more-same _ _ c.args.chosen.now c.requires.chosen _ _ c.requires.term c.requires.room refl refl refl c.in_ok-push.ensures.ok
