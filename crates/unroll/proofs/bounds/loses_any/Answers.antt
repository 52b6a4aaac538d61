use Rattle.std.proofs.Common.{rules, ◌<◌, length}
use Rattle.affine_moves.proofs.Orders.{any-here}
use Rattle.unroll.specs.Bounds.{loses_any, is_lost}
use Rattle.unroll.proofs.bounds.loses_any.Goals as goal

pub returns-then-is_lost : goal.returns-then-is_lost
unfolding loses_any
returns-then-is_lost c =
    let l : c.loop-term.term < length c.args.nest.now.terms = search rules in
    any-here (is_lost (length c.args.head.now.params) c.args.level c.args.nest.now c.args.lower.now) _ c.loop-term.term l c.if-is_lost.ensures
