use Rattle.std.proofs.Common.{rules, ◌<◌, length, pos, get_or}
use Rattle.std.proofs.lemmas.Int.{to_z-of_z}
use mir.Val.{SFits}
use mir.Syntax.{w128}
use Rattle.unroll.proofs.Multiples.{multiples-more}
use Rattle.unroll.proofs.group.plus_multiples.Goals as goal

pub loop-i-preserved : goal.loop-i-preserved
loop-i-preserved c =
    let a : SFits w128 (get_or c.args.starts.now c.loop-i.i (pos 0)) = search rules in
    let b : SFits w128 (get_or c.args.numbers.now c.loop-i.i (pos 0)) = search rules in
    let t : SFits w128 c.args.times = c.ranges.times in
    let d : SFits w128 c.plus_multiple.result = search rules in
    let l : c.loop-i.i < length c.args.starts.now = search rules in
    let m : c.loop-i.i < length c.args.numbers.now = search rules in
    simp to_z-of_z (multiples-more c.args.starts.now c.args.numbers.now c.args.times c.loop-i.i c.plus_multiple.result _ _ _ l m (simp to_z-of_z at c.plus_multiple.ensures) (simp to_z-of_z at c.in_ok-push.ensures.ok) (simp to_z-of_z at c.loop-i.invariant))
