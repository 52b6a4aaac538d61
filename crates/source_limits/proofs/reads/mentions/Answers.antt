use Rattle.source_limits.specs.Matrices.{is_of_matrix}
use Rattle.source_limits.proofs.Lists.{all_turned}
use Rattle.source_limits.proofs.reads.mentions.Goals as goal

pub returns : goal.returns
returns c = all_turned (is_of_matrix c.args.matrices.now) _ _ c.reverse.ensures.items c.in_ok-push_mentions.ensures
