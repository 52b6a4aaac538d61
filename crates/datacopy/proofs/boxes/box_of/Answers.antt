use Rattle.std.proofs.Common.{rules, ◌≡◌, length, map, ◌∙◌, ap}
use Rattle.datacopy.specs.Boxes.{coefs_of}
use Rattle.datacopy.proofs.Joining.{over-same, count-same, reads-more}
use Rattle.datacopy.proofs.boxes.box_of.Goals as goal

pub loop-read-preserved : goal.loop-read-preserved
loop-read-preserved c =
    let same : map coefs_of c.in_ok-sides-2.sides.items ≡ map coefs_of c.loop-read.sides.items = c.in_ok-sides-2.ensures ∙ ap (map coefs_of) c.as_slice.ensures.value in
    let count : length c.read-item.result.at ≡ length c.in_ok-sides.sides.items = search rules in
    record {
      count = count-same _ _ same ∙ c.loop-read.invariant.count;
      over = over-same _ _ _ same c.loop-read.invariant.over;
      reads = reads-more _ c.loop-read.read-index _ c.read-item.result _ c.loop-read-test.true c.read-item.is count c.loop-read.invariant.reads;
    }
