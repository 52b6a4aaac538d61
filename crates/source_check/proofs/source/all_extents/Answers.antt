use Rattle.std.proofs.Common.{arith, ◌<◌, length, get_or, ap, ◌∙◌}
use Rattle.source_check.specs.Sights.{are_extents}
use Rattle.source_check.proofs.Shapes.{all_more, shapes_more}
use Rattle.source_check.proofs.source.all_extents.Goals as goal

pub loop-array-preserved : goal.loop-array-preserved
loop-array-preserved c =
    let items = c.as_slice-array-items.ensures in
    let n = ap length items in
    let less : c.loop-array.array-index < length c.args.program.now.arrays = omega (arith, n, c.loop-array-test.true) in
    let is = c.array-item.is ∙ ap (λ l. get_or l c.loop-array.array-index c.array-item.result) items in
    record {
      widths = all_more (are_extents (length c.args.program.now.params)) c.loop-array.all _ _ c.in_ok-push.ensures.ok c.in_ok-extents_of.ensures.widths c.loop-array.invariant.widths;
      shapes = shapes_more c.args.program.now.arrays c.loop-array.array-index c.array-item.result c.loop-array.all _ _ less is c.in_ok-push.ensures.ok c.in_ok-extents_of.ensures.count
          c.loop-array.invariant.shapes;
    }
