use Rattle.std.proofs.Common.{rules, ◌<◌, length}
use Rattle.affine_moves.specs.Moves.{is_late, waits_for}
use Rattle.affine_moves.proofs.Orders.{any-here, and-here}
use Rattle.affine_moves.proofs.shapes.is_late.Goals as goal

pub returns-then-waits_for : goal.returns-then-waits_for
unfolding is_late
returns-then-waits_for c =
    let l : c.loop-level.level < length c.args.nest.now.levels = search rules in
    let found = any-here (waits_for (length c.args.head.now.params) c.args.change.now c.args.nest.now c.args.row.now) _ c.loop-level.level l c.if-waits_for.ensures in
    and-here _ _ c.if-row-eq0.false found
