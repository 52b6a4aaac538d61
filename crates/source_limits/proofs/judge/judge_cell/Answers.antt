use Rattle.std.proofs.Common.{arith, length}
use Rattle.c_judge.specs.Signature.{extents_of}
use Rattle.source_limits.specs.Dimensions.{subscript_count}
use Rattle.source_limits.proofs.Declaring.{place_below}
use Rattle.source_limits.proofs.judge.judge_cell.Goals as goal

pub judge_subscript-requires : goal.judge_subscript-requires
judge_subscript-requires c =
    place_below (length (extents_of c.args.scene.head.now.arrays c.args.cell.now.array)) (subscript_count c.args.cell.now.at) c.loop-place.place c.requires.cell
    (omega (arith, c.in_ok-subscripts.ensures.count))
