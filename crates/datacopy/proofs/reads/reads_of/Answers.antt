use Rattle.std.proofs.Common.{◌∙◌}
use Rattle.datacopy.proofs.Backwards.{turned}
use Rattle.datacopy.proofs.reads.reads_of.Goals as goal

pub returns : goal.returns
returns c = turned c.args.array c.args.body.now _ _ _ c.new-reads.ensures.items c.in_ok-push_reads_back.ensures (c.from_vec.ensures ∙ c.reverse.ensures.items)
