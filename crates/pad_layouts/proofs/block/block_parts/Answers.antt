use Rattle.std.proofs.Common.{◌+◌, ◌≤◌, arith}
use Rattle.nest_core.specs.Shapes.{vars_of}
use Rattle.pad_layouts.proofs.Fitting.{block-within}
use Rattle.pad_layouts.proofs.block.block_parts.Goals as goal

pub block_rows-requires-clause-picks : goal.block_rows-requires-clause-picks
block_rows-requires-clause-picks c =
    let l : c.args.params + 5 ≤ vars_of c.args.params c.args.nest.now = omega (arith, c.requires.depth) in
    rw (c.as_slice.ensures, c.in_ok-picks.ensures) (block-within c.args.params _ l)
