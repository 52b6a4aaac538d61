use Rattle.std.proofs.Common.{◌+◌, ◌≤◌, arith}
use Rattle.nest_core.specs.Shapes.{vars_of}
use Rattle.pad_layouts.proofs.Fitting.{row-within}
use Rattle.pad_layouts.proofs.rows.row_parts.Goals as goal

pub row_rows-requires-clause-picks : goal.row_rows-requires-clause-picks
row_rows-requires-clause-picks c =
    let l : c.args.params + 2 ≤ vars_of c.args.params c.args.nest.now = omega (arith, c.requires.depth) in
    rw (c.as_slice.ensures, c.in_ok-picks.ensures) (row-within c.args.params _ c.args.column l c.requires.column)
