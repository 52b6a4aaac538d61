use Rattle.std.proofs.Common.{refl}
use Rattle.nest_systems.proofs.Choosing.{ends-kept}
use Rattle.nest_systems.proofs.choose.push_end.Goals as goal

pub returns-clause-kept : goal.returns-clause-kept
returns-clause-kept c = ends-kept _ _ c.args.chosen.now c.requires.chosen _ _ c.requires.term refl refl c.in_ok-push.ensures.ok refl
