use Rattle.std.proofs.Common.{Bor}
use Rattle.c_tree.specs.declared.index.Cell.{Cell}
use Rattle.source_limits.specs.Dimensions.{is_declared}
use Rattle.source_limits.proofs.Lists.{all_referred}
use Rattle.source_limits.proofs.judge.judge_site.Goals as goal

pub judge_cells-requires-clause-cells : goal.judge_cells-requires-clause-cells
judge_cells-requires-clause-cells c =
    rw c.as_slice.ensures.value (all_referred (is_declared c.args.scene.head.now.arrays) (λ (r : Bor Cell). r.now) _ _ c.in_ok-cells.ensures c.requires.declared)
