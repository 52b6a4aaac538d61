use Rattle.std.proofs.Common.{◌+◌, ◌≤◌, arith, length}
use Rattle.nest_core.specs.Shapes.{vars_of}
use Rattle.pad_layouts.specs.Kinds.{diag_parts}
use Rattle.pad_layouts.proofs.Fitting.{diag-fitting, diag-within}
use Rattle.pad_layouts.proofs.statement.diag_nest.Goals as goal

pub shaped_nest-requires-clause-fitting : goal.shaped_nest-requires-clause-fitting
shaped_nest-requires-clause-fitting c = rw (c.in_ok-parts.ensures, c.as_slice.ensures) (diag-fitting c.args.head.now.params c.args.matrix.now c.args.arrays.now)

pub shaped_nest-requires-clause-picks : goal.shaped_nest-requires-clause-picks
unfolding diag_parts
shaped_nest-requires-clause-picks c =
    let l : length c.args.head.now.params + 3 ≤ vars_of (length c.args.head.now.params) c.args.nest.now = omega (arith, c.requires.depth) in
    rw (c.in_ok-parts.ensures, c.as_slice.ensures) (diag-within (length c.args.head.now.params) _ l)
