use Rattle.pad_layouts.proofs.Depths.{depth-if}
use Rattle.pad_layouts.proofs.plan.layout_at.Goals as goal

pub returns-clause-depth : goal.returns-clause-depth
returns-clause-depth c = depth-if c.args.kind c.args.levels.now c.layout_of.result c.layout_of.ensures
