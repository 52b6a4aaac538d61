use Rattle.std.proofs.Common.{rules, ◌<◌, length}
use Rattle.affine_moves.proofs.Orders.{any-here}
use Rattle.unroll.specs.Bounds.{names_later, names_later_one}
use Rattle.unroll.proofs.bounds.names_later.Goals as goal

pub returns-then-names_later_one : goal.returns-then-names_later_one
unfolding names_later
returns-then-names_later_one c =
    let l : c.loop-place.place < length c.args.nest.now.levels = search rules in
    any-here (names_later_one (length c.args.head.now.params) c.args.level c.args.nest.now c.args.form.now) _ c.loop-place.place l c.if-names_later_one.ensures
