use Rattle.source_limits.proofs.Declaring.{first_below}
use Rattle.source_check.proofs.inside.judge_term.Goals as goal

pub judge_inside-requires-clause-place : goal.judge_inside-requires-clause-place
judge_inside-requires-clause-place c = first_below c.args.sight.scene.head.now c.args.mention.array.now c.requires.sight.matrices c.requires.term
