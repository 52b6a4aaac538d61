use Rattle.source_limits.proofs.Declaring.{first_below}
use Rattle.source_limits.proofs.judge.judge_term.Goals as goal

pub judge_subscript-requires : goal.judge_subscript-requires
judge_subscript-requires c = first_below c.args.scene.head.now c.args.mention.array.now c.requires.matrices c.requires.term
