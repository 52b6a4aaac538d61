use Rattle.std.proofs.Common.{◌+◌, ◌≤◌, arith, length, ap}
use Rattle.nest_core.specs.Shapes.{vars_of}
use Rattle.pad_layouts.specs.Kinds.{row_parts}
use Rattle.pad_layouts.proofs.Fitting.{row-fitting, row-within}
use Rattle.pad_layouts.proofs.statement.row_nest.Goals as goal

pub shaped_nest-requires-clause-fitting : goal.shaped_nest-requires-clause-fitting
shaped_nest-requires-clause-fitting c =
    rw (c.in_ok-parts.ensures, ap length c.as_slice-params.ensures) (row-fitting (length c.args.head.now.params) c.args.arrays.now c.args.column c.args.nest.now.rows _ _ c.requires.shaped.rows)

pub shaped_nest-requires-clause-picks : goal.shaped_nest-requires-clause-picks
unfolding row_parts
shaped_nest-requires-clause-picks c =
    let l : length c.args.head.now.params + 2 ≤ vars_of (length c.args.head.now.params) c.args.nest.now = omega (arith, c.requires.depth) in
    rw (c.in_ok-parts.ensures, ap length c.as_slice-params.ensures) (row-within (length c.args.head.now.params) _ c.args.column l c.requires.column)
