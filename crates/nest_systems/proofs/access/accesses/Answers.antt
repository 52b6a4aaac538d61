use Rattle.std.proofs.Common.{◌∙◌}
use Rattle.nest_systems.proofs.Reading.{cells-back}
use Rattle.nest_systems.proofs.access.accesses.Goals as goal

pub returns : goal.returns
returns c = cells-back c.args.nest.now _ _ _ _ _ c.new-all.ensures.items c.in_ok-push_reads_back.ensures c.in_ok-push.ensures.items c.in_ok-copy_access.ensures (c.from_vec.ensures ∙ c.reverse.ensures.items)
