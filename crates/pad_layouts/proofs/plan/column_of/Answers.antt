use Rattle.std.proofs.Common.{◌≡◌, ◌+◌, arith, length, ap, ◌∙◌}
use Rattle.nest_core.specs.Shapes.{vars_of}
use Rattle.pad_layouts.specs.Plans.{old_depth}
use Rattle.pad_layouts.proofs.Depths.{find-within}
use Rattle.pad_layouts.proofs.plan.column_of.Goals as goal

pub returns-in-Rows-clause-within : goal.returns-in-Rows-clause-within
returns-in-Rows-clause-within c =
    let d : length c.args.nest.now.levels ≡ 2 = c.requires.depth ∙ ap old_depth c.in-Rows.is in
    let e : length c.as_slice-params.result.now + 2 + length c.as_slice.result.now ≡ vars_of (length c.args.head.now.params) c.args.nest.now =
    omega (arith, ap length c.as_slice-params.ensures, ap length c.as_slice.ensures, d) in
    rw c.find_read.ensures (find-within _ _ _ _ _ e)
